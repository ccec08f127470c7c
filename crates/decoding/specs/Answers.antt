-- What the answers of the code's parts say: the value that digits stand for, or 43.
-- found        an answer that is a value or none, as an outcome
-- found-once   no two answers have the same outcome
use Rattle.std.specs.Prelude.{Option, Some, None, ◌≡◌, refl}
use Rattle.std.proofs.Common.{ap, sym}
use Rattle.refusals.specs.Numbers.{Outcome}
use Rattle.refusals.specs.Numbers.Outcome.{accepted}
use Rattle.refusals.specs.Laws.{accepted-once, two_ways}
use Rattle.decoding.specs.Tables.{no_meaning}

abbrev pub found : {A : Type 0} → Option A → Outcome A
found (Some a) = accepted a
found None = no_meaning

-- Two answers that have one outcome are one answer.
pub found-once : {A : Type 0} (a b : Option A) → found a ≡ found b → a ≡ b
found-once (Some x) (Some y) e = ap Some (accepted-once e)
found-once (Some x) None e = absurd (two_ways (sym e))
found-once None (Some y) e = absurd (two_ways e)
found-once None None e = refl
