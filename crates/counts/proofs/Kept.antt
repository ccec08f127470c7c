-- The cells of the phrases' counts.
-- keep-held                one more phrase's counts in its cell
-- none_held, blank-cells   the cells at a voice's start
use Prim.Native.Nat.{ℕ, ◌<◌}
use mathlib.Core.Path.{◌≡◌, refl, sym, ap, ◌∙◌, subst, fun_ext}
use mathlib.Core.List.{List}
use native.Mathlib.Omega.{arith}
use lib.Dec.{eqb}
use lib.ListN.{set, length-set}
use Rattle.logic.specs.Cases.{cases}
use Rattle.bodies.specs.Playing.{learn}
use Rattle.bodies.proofs.Cells.{set_at, blank, blank_at}
use Rattle.tally.specs.declared.Counts.{Counts}
use Rattle.tally.specs.Sums.{no_counts}
use Rattle.tally.specs.Small.{Small, packed_counts, unpacked_counts}
use Rattle.counts.specs.Measures.{held_in, Cells}
use Rattle.tally.proofs.Sums.{unpacked_packed}

module _ (cells : List ℕ) (k : ℕ) (c : Counts) (x : ℕ) (s : Cells cells) (h : k < 24) (g : Small c) (e : x ≡ packed_counts c) where
  learnt : (j : ℕ) → held_in (set cells k x) j ≡ learn k c (held_in cells) j
  learnt j =
      ap unpacked_counts (set_at 0 cells k j x (omega (arith, s.few)))
      ∙ cases (eqb k j) (λ q. rw q (ap unpacked_counts e ∙ unpacked_packed c g)) (λ q. rw q)

  still-small : (j : ℕ) → Small (learn k c (held_in cells) j)
  still-small j = cases (eqb k j) (λ q. rw q g) (λ q. rw q (s.small j))

  pub keep-held : (held_in (set cells k x) ≡ learn k c (held_in cells)) × Cells (set cells k x)
  keep-held = (
    fun_ext learnt,
    record { few = length-set cells k x ∙ s.few; small = λ j. subst Small (sym (learnt j)) (still-small j) },
  )

pub none_held : held_in (blank 24) ≡ (λ k. no_counts)
none_held = fun_ext (λ k. ap unpacked_counts (blank_at 24 k))

pub blank-cells : Cells (blank 24)
blank-cells = record { few = refl; small = λ k. subst Small (sym (ap unpacked_counts (blank_at 24 k))) (record { events = omega arith; walked = omega arith; depth = omega arith }) }
