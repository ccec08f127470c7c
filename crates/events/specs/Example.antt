-- Document 01, 'Sums on the bench': the events of the 28 bytes there as the listing program prints them, by
-- the definitions.
-- listed           a voice of the bytes, from event 0 on, in lists of seven cells that hold 90 to 96 and 80
--                  to 86
-- example-listed   voices 1, 2 and 3: 5, 1 and 1 cells are filled, and the others keep what they held
use Rattle.std.specs.Prelude.{ℕ, ◌≡◌, [], ◌∷◌}
use Rattle.refusals.specs.Numbers.Outcome.{accepted}
use Rattle.clock.specs.Lengths.{length_of, values_after}
use Rattle.clock.specs.Times.{lengths, sum, time_of, jiffy_of, numbers, jiffies}
use Rattle.bodies.specs.Voice.{pairs_by, pairs}
use Rattle.bodies.specs.Bodies.{inner, outer, with_pair, bodies, body_of}
use Rattle.bodies.specs.Playing.{interpret, phrases, copies, played}
use Rattle.mus.specs.Asked.{asked_by}
use Rattle.mus.specs.Example.{example, example-accepted}
use Rattle.walk.specs.Times.{offsets_of, jiffies_of}
use Rattle.events.specs.Listing.{played_by, Listing, listing_by, listing}

abbrev pub listed : ℕ → Listing
listed voice = listing example voice 0 (90 ∷ 91 ∷ 92 ∷ 93 ∷ 94 ∷ 95 ∷ 96 ∷ []) (80 ∷ 81 ∷ 82 ∷ 83 ∷ 84 ∷ 85 ∷ 86 ∷ [])

-- Of the paper's file, voices 1, 2 and 3 fill 5, 1 and 1 cells with these offsets and jiffies, and the other
-- cells keep what they held.
pub example-listed : (listed 1 ≡ record { answer = accepted 5; offsets = 8 ∷ 12 ∷ 12 ∷ 12 ∷ 16 ∷ 95 ∷ 96 ∷ []; jiffies = 0 ∷ 0 ∷ 1 ∷ 3 ∷ 5 ∷ 85 ∷ 86 ∷ [] })
    × (listed 2 ≡ record { answer = accepted 1; offsets = 18 ∷ 91 ∷ 92 ∷ 93 ∷ 94 ∷ 95 ∷ 96 ∷ []; jiffies = 0 ∷ 81 ∷ 82 ∷ 83 ∷ 84 ∷ 85 ∷ 86 ∷ [] })
    × (listed 3 ≡ record { answer = accepted 1; offsets = 20 ∷ 91 ∷ 92 ∷ 93 ∷ 94 ∷ 95 ∷ 96 ∷ []; jiffies = 0 ∷ 81 ∷ 82 ∷ 83 ∷ 84 ∷ 85 ∷ 86 ∷ [] })
unfolding listing_by asked_by played_by offsets_of jiffies_of lengths sum time_of jiffy_of numbers jiffies length_of values_after pairs_by pairs inner outer with_pair bodies body_of interpret phrases copies played
example-listed = (rw example-accepted, rw example-accepted, rw example-accepted)
