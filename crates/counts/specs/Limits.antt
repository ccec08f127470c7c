-- Document 01, 'MUS container' and 'Playing a voice': 'then 32, then 33', and what acceptance reports of a
-- voice.
-- limit_tests     32: 'Depth counts repeats and calls in progress at once: at most 16'; 33: 'Pairs walked ..
--                At most 1,048,576'
-- unless_off      a verdict's reason, or what else there is
-- Within          so many events and pairs walked
-- count_outcome   the first of them that applies to a voice, or its events and pairs walked
use Rattle.std.specs.Prelude.{ℕ, List, [], ◌∷◌, ltb}
use Rattle.meaning.specs.declared.Meaning.{Meaning}
use Rattle.refusals.specs.Numbers.{Outcome}
use Rattle.refusals.specs.declared.Reason.TheVariants.{TooDeep, TooLong}
use Rattle.refusals.specs.declared.Test.{Test}
use Rattle.refusals.specs.Tests.{test, first_of}
use Rattle.refusals.specs.Tests.{Verdict}
use Rattle.std.specs.Prelude.{Result, Ok, Err}
use Rattle.refusals.specs.declared.Reason.{Reason}
use Rattle.bodies.specs.Playing.{events_of, walked_of, depth_of}
use Rattle.counts.specs.declared.Walk.{Walk}

abbrev pub limit_tests : List (Outcome Meaning) → List Test
limit_tests v = test TooDeep (ltb 16 (depth_of v)) ∷ test TooLong (ltb 1048576 (walked_of v)) ∷ []

abbrev pub unless_off : Verdict → Result Walk Reason → Result Walk Reason
unless_off (Ok u) c = c
unless_off (Err r) c = Err r

abbrev pub Within : ℕ → ℕ → Result Walk Reason
Within events walked = Ok (record { events = events; walked = walked })

abbrev pub count_outcome : List (Outcome Meaning) → Result Walk Reason
count_outcome v = unless_off (first_of (limit_tests v)) (Within (events_of v) (walked_of v))
