-- What stands before the first mark is as long as std's index of that mark. Assumes nothing.
use Rattle.std.specs.Prelude.{ℕ, ◌+◌, ◌≡◌, ◌==◌, cond, List, ◌∷◌, length, position, unwrap_or, eqb}
use Rattle.std.specs.List.{position_or_len}
use Rattle.std.proofs.Common.{refl, arith, sym}
use Rattle.std.proofs.lemmas.List.Recursion.{is_position_or_len}
use Rattle.std.proofs.lemmas.Bool.{ltb-false}
use Rattle.std.proofs.Math.Dec.{ltb}
use Rattle.logic.specs.Cases.{cases}
use Rattle.fields.specs.Parts.{before}
use Rattle.fields.specs.Laws.{length_before}

module _ (mark : ℕ) where
  step : (b : ℕ) (bs : List ℕ) → length (before mark (b ∷ bs)) ≡ cond (eqb b mark) 0 (1 + length (before mark bs))
  unfolding before
  step b bs = cases (eqb b mark) (λ e. rw e) (λ e. rw e (omega arith))

  pub before_position_or_len : (s : List ℕ) → length (before mark s) ≡ position_or_len (λ b. eqb b mark) s
  unfolding before
  before_position_or_len = is_position_or_len (λ s. length (before mark s)) (λ b. eqb b mark) refl step

  pub before_position : (s : List ℕ) → unwrap_or (position (λ b. b == mark) s) (length s) ≡ length (before mark s)
  before_position s =
      let e = before_position_or_len s in
      let h = length_before mark s in
      cases (ltb (position_or_len (λ b. eqb b mark) s) (length s)) (λ t. rw t (sym e)) (λ t. rw t (omega (arith, e, h, ltb-false _ _ t)))
