-- A refused pair's number is 27 or 28, as the code asks it.
use Prim.Native.Nat.{ℕ}
use mathlib.Core.Path.{◌≡◌}
use mathlib.Core.Bool.{cond}
use mathlib.Core.Logic.{◌⊎◌, ⊎_elim}
use lib.Dec.{eqb}
use Rattle.refusals.specs.Tests.{Verdict}
use Rattle.std.specs.Prelude.{Err}
use Rattle.refusals.specs.declared.Reason.TheVariants.{UnassignedPair, ValueRange}
use Rattle.structure.specs.Tests.{refused_pair}

pub bad-either : (n : ℕ) (v : Verdict) → (n ≡ 27) ⊎ (n ≡ 28)
    → Err (refused_pair n) ≡ cond (eqb n 27) (Err UnassignedPair) (cond (eqb n 28) (Err ValueRange) v)
bad-either n v h = ⊎_elim (λ e. rw e) (λ e. rw e) h
