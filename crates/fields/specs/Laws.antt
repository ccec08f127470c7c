-- Laws of parts; those of memory stand in proofs/Memory.antt.
-- take-before    the bytes before the first mark are the first of their list
-- length_before  they are no more
use Rattle.std.specs.Prelude.{ℕ, ◌≤◌, ◌≡◌, take, eqb}
use Rattle.std.proofs.Math.Path.{refl}
use Rattle.std.proofs.Common.{ap}
use mathlib.Core.List.{List, [], ◌∷◌}
use native.Mathlib.Omega.{arith}
use Rattle.std.proofs.Math.ListN.{length}
use Rattle.logic.specs.Cases.{cases}
use Rattle.fields.specs.Parts.{before}

module _ (mark : ℕ) where
  -- The bytes before the first mark are the first bytes of their list.
  pub take-before : (s : List ℕ) → take (length (before mark s)) s ≡ before mark s
  unfolding before
  take-before [] = refl
  take-before (b ∷ bs) = cases (eqb b mark) (λ e. rw e) (λ e. rw e (ap (λ (l : List ℕ). b ∷ l) (take-before bs)))

  -- The bytes before the first mark are at most as many as the bytes of their list.
  pub length_before : (s : List ℕ) → length (before mark s) ≤ length s
  unfolding before
  length_before [] = omega arith
  length_before (b ∷ bs) = let rest = length_before bs in cases (eqb b mark) (λ e. rw e (omega arith)) (λ e. rw e (omega arith))
