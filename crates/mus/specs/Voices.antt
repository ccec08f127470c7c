-- Document 01, 'MUS container': 'within a voice first 27 to 29 pair by pair (at one pair the lower number),
-- then 30 and 31 pair by pair, then 32, then 33. The place is the offending pair's file offset; for 32 and 33
-- the voice's first pair.' A voice is its own bytes and the file offset of its first pair, and nothing else.
-- or_found          a refusal at a pair, with the pair's file offset, or what comes later
-- limited          32 or 33 at the voice's first pair, or 'each voice's events and pairs walked'
-- voice_by          a voice accepted or refused, where read is the way to read its pairs (Reader of
--                  crates/bodies/specs/Voice.antt)
-- voice_outcome     the same with document 01's reader, pairs
use Rattle.std.specs.Prelude.{Result, Ok, Err, ℕ, ◌+◌, ◌*◌, List, length}
use Rattle.refusals.specs.Numbers.{Outcome, number_of}
use Rattle.refusals.specs.Numbers.Outcome.{accepted, refused}
use Rattle.refusals.specs.declared.Reason.{Reason}
use Rattle.bodies.specs.Voice.{Reader, pairs}
use Rattle.structure.specs.Findings.{Found, pairs_finding, structure_finding}
use Rattle.counts.specs.declared.Walk.{Walk}
use Rattle.counts.specs.Limits.{count_outcome}
use Rattle.mus.specs.declared.Voice.{Voice}

abbrev pub or_found : {A : Type 0} → ℕ → Found → Outcome A → Outcome A
or_found offset (Ok u) later = later
or_found offset (Err x) later = refused (number_of x.reason) (offset + 2 * x.pair)

abbrev pub limited : ℕ → ℕ → Result Walk Reason → Outcome Voice
limited offset len (Ok w) = accepted (record { offset = offset; length = len; events = w.events; walked = w.walked })
limited offset len (Err r) = refused (number_of r) offset

unfoldable pub voice_by : Reader → ℕ → List ℕ → Outcome Voice
voice_by read offset bs =
    or_found offset (pairs_finding (read bs))
    (or_found offset (structure_finding (read bs))
    (limited offset (length bs) (count_outcome (read bs))))

abbrev pub voice_outcome : ℕ → List ℕ → Outcome Voice
voice_outcome offset bs = voice_by pairs offset bs
