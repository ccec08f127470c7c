-- What is refused of two bytes is 27 or 28, at place 0.
-- PairRefused   so for one outcome
-- RefusedPairs.antt shows it for every two bytes.
use mathlib.Core.Path.{◌≡◌}
use mathlib.Core.Logic.{◌⊎◌}
use Rattle.refusals.specs.Numbers.{Outcome}
use Rattle.refusals.specs.Numbers.Outcome.{accepted, refused}
use Rattle.meaning.specs.declared.Meaning.{Meaning}

abbrev pub PairRefused : Outcome Meaning → Type 0
PairRefused (accepted m) = Unit
PairRefused (refused number place) = ((number ≡ 27) ⊎ (number ≡ 28)) × (place ≡ 0)
