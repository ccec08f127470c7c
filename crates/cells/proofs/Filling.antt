-- A list filled in step: what is filled so far, before what is still to come, is the window asked for.
-- Fills         so, by what is still to come of the events
-- fills_start, fills_step, fills_end   before the first event; one event goes by; all cells are filled
-- cells-length  no list changes its length
-- cursor_step   one event goes by: the cursor stays within the cells asked for, and enough events are left
use Prim.Native.Nat.{ℕ, suc, ◌+◌, ◌-◌, ◌<◌, ◌≤◌}
use mathlib.Core.Path.{◌≡◌, sym, ap, ◌∙◌}
use mathlib.Core.List.{List, ◌∷◌, ◌++◌}
use native.Mathlib.Nat.{sub-zero, sub_self}
use native.Mathlib.Numerals.{add-one}
use native.Mathlib.Omega.{arith}
use lib.Dec.{eqb}
use borrow.Author.Tests.{eqb-true, eqb-false}
use lib.ListN.{length, take, drop, length-set, take-append-drop}
use lib.Seq.{take-suc-set, drop-set-lt, append_snoc}
use Rattle.logic.specs.Cases.{cases}
use Rattle.cells.specs.declared.Cursor.{Cursor}
use Rattle.cells.specs.Window.{filled}
use Rattle.cells.specs.Cells.{cursor_after, cells_after}

pub record Fills {A : Type 0} (count : ℕ) (c : Cursor) (xs cells target : List A) : Type 0 where
  pub so_far : take c.filled cells ++ (take (count - c.filled) (drop c.skip xs) ++ drop count cells) ≡ target
  pub room : count ≤ length cells

module _ {A : Type 0} where
  pub fills_start : (first count : ℕ) (xs cells : List A) → count ≤ length cells → Fills count (record { skip = first; filled = 0 }) xs cells (filled first count xs cells)
  fills_start first count xs cells h = record { so_far = rw (sub-zero count); room = h }

  pub fills_step : (count : ℕ) (c : Cursor) (x : A) (xs cells target : List A) → Fills count c (x ∷ xs) cells target → c.filled < count → Fills count (cursor_after c) xs (cells_after c x cells) target
  fills_step count c x xs cells target f h =
      cases (eqb c.skip 0)
      (λ e.
      let none : c.skip ≡ 0 = eqb-true c.skip 0 e in
      let more : count - c.filled ≡ suc (count - (c.filled + 1)) = omega arith in
      rw e
      record {
        so_far =
            rw (add-one c.filled, take-suc-set cells c.filled x (omega (arith, f.room)), drop-set-lt count cells c.filled x h)
            (append_snoc (take c.filled cells) x (take (count - suc c.filled) xs ++ drop count cells))
            ∙ (rw (none, more, add-one c.filled) at f.so_far);
        room = omega (arith, f.room, length-set cells c.filled x);
      })
      (λ e.
      let some : c.skip ≡ suc (c.skip - 1) = omega (arith, eqb-false c.skip 0 e) in
      rw e
      record { so_far = ap (λ (n : ℕ). take c.filled cells ++ (take (count - c.filled) (drop n (x ∷ xs)) ++ drop count cells)) (sym some) ∙ f.so_far; room = f.room })

  pub fills_end : (count : ℕ) (c : Cursor) (xs cells target : List A) → Fills count c xs cells target → c.filled ≡ count → cells ≡ target
  fills_end count c xs cells target f e =
      sym (take-append-drop count cells) ∙ (rw (e, sub_self) at f.so_far)

  pub cells-length : (c : Cursor) (x : A) (cells : List A) → length (cells_after c x cells) ≡ length cells
  cells-length c x cells = cases (eqb c.skip 0) (λ e. rw e (length-set cells c.filled x)) (λ e. rw e)

pub cursor_step : (count n : ℕ) (c : Cursor) → c.filled < count → count - c.filled ≤ suc n - c.skip → ((cursor_after c).filled ≤ count) × (count - (cursor_after c).filled ≤ n - (cursor_after c).skip)
cursor_step count n c h s =
    cases (eqb c.skip 0) (λ e. rw e (omega arith, omega (arith, eqb-true c.skip 0 e))) (λ e. rw e (omega arith, omega (arith, eqb-false c.skip 0 e)))
