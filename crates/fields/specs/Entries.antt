-- Not of document 01: an entry by its number, of a list with a mark after each, for the words of programs;
-- and its law.
-- entry_start            where the part of a list begins that has so many marks before it
-- entry_at               the entry
-- entries_joined         such a list
-- has_mark, any_has_mark   the mark within an entry, or within one of the entries
-- entry-joined          entry n of the list is entry n, and nothing past the last
use Prim.Native.Nat.{ℕ, zero, suc, ◌+◌, ◌-◌}
use Rattle.std.specs.Prelude.{◌≡◌, Bool, false, cond, ◌||◌, drop, get_or, eqb}
use Rattle.std.proofs.Math.Path.{refl, ap}
use Rattle.std.proofs.Common.{◌∙◌}
use mathlib.Core.List.{List, [], ◌∷◌, ◌++◌}
use native.Mathlib.Omega.{arith}
use Rattle.std.proofs.Math.Dec.{eqb-suc-zero}
use borrow.Author.Tests.{eq-eqb}
use Rattle.fields.specs.Parts.{before}
use Rattle.logic.specs.Truth.{neither}

unfoldable pub entry_start : List ℕ → ℕ → ℕ → ℕ
entry_start [] mark n = 0
entry_start (b ∷ bs) mark n = cond (eqb n 0) 0 (1 + entry_start bs mark (cond (eqb b mark) (n - 1) n))

unfoldable pub entry_at : List ℕ → ℕ → ℕ → List ℕ
entry_at list mark n = before mark (drop (entry_start list mark n) list)

module _ (mark : ℕ) where
  abbrev pub entries_joined : List (List ℕ) → List ℕ
  entries_joined [] = []
  entries_joined (p ∷ ps) = p ++ mark ∷ entries_joined ps

  abbrev pub has_mark : List ℕ → Bool
  has_mark [] = false
  has_mark (b ∷ bs) = eqb b mark || has_mark bs

  abbrev pub any_has_mark : List (List ℕ) → Bool
  any_has_mark [] = false
  any_has_mark (p ∷ ps) = has_mark p || any_has_mark ps

  module _ (s : List ℕ) where
    first : (p : List ℕ) → has_mark p ≡ false → before mark (p ++ mark ∷ s) ≡ p
    unfolding before
    first [] e = rw (eq-eqb mark mark refl)
    first (b ∷ bs) e = let h = neither (eqb b mark) (has_mark bs) e in rw h.0 (ap (λ (l : List ℕ). b ∷ l) (first bs h.1))

    start : entry_start s mark 0 ≡ 0
    unfolding entry_start
    start = elim s as (λ l. entry_start l mark 0 ≡ 0) [
      | [] ↦ refl
      | b ∷ bs ↦ refl
    ]

    next : (n : ℕ) (p : List ℕ) → has_mark p ≡ false → drop (entry_start (p ++ mark ∷ s) mark (suc n)) (p ++ mark ∷ s) ≡ drop (entry_start s mark n) s
    unfolding entry_start
    next n [] e =
        let one : suc n - 1 ≡ n = omega arith in
        let more : 1 + entry_start s mark n ≡ suc (entry_start s mark n) = omega arith in
        rw (eqb-suc-zero n, eq-eqb mark mark refl, one, more)
    next n (b ∷ bs) e =
        let h = neither (eqb b mark) (has_mark bs) e in
        let rest = entry_start (bs ++ mark ∷ s) mark (suc n) in
        let more : 1 + rest ≡ suc rest = omega arith in
        rw (eqb-suc-zero n, h.0, more) (next n bs h.1)

  -- Entry n of the joined list is entry n, and empty past the last, where no entry has the mark in it.
  pub entry-joined : (ps : List (List ℕ)) (n : ℕ) → any_has_mark ps ≡ false → entry_at (entries_joined ps) mark n ≡ get_or ps n []
  unfolding entry_at entry_start before
  entry-joined [] n e = refl
  entry-joined (p ∷ ps) zero e = rw (start (p ++ mark ∷ entries_joined ps)) (first (entries_joined ps) p (neither (has_mark p) (any_has_mark ps) e).0)
  entry-joined (p ∷ ps) (suc n) e =
      let h = neither (has_mark p) (any_has_mark ps) e in
      ap (before mark) (next (entries_joined ps) n p h.0) ∙ entry-joined ps n h.1
