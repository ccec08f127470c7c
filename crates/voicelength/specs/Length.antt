-- Document 02 (iii): 'Give each accepted voice's exact end time in 384ths .. The answer equals the exact time
-- of HLT in the played-out voice. .. Refusals: 41, then the file's own.' The played-out voice and its exact
-- times are those of the listing (crates/events/specs/Listing.antt, crates/clock/specs/Times.antt).
-- end_of             the exact time of the last of some events; the last of a played-out voice is its HLT
-- length_asked       a voice by its number: 41, then the file's own refusal, then the time of its HLT
use Rattle.std.specs.Prelude.{ℕ, ◌-◌, List, length}
use Rattle.refusals.specs.Numbers.{Outcome}
use Rattle.refusals.specs.Numbers.Outcome.{accepted}
use Rattle.refusals.specs.Tests.{and_then}
use Rattle.clock.specs.Times.{time_of}
use Rattle.bodies.specs.Bodies.{Event}
use Rattle.mus.specs.Asked.{voice_asked}
use Rattle.walk.specs.Times.{meanings}
use Rattle.events.specs.Listing.{played_in}

unfoldable pub end_of : List Event → ℕ
end_of es = time_of (meanings es) (length es - 1)

unfoldable pub length_asked : List ℕ → ℕ → Outcome ℕ
length_asked f voice = and_then (voice_asked f voice) (λ v. accepted (end_of (played_in f v)))
