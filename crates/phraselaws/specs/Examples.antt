-- Request (ii): 'A file using them may now be accepted'. Two files of 28 bytes, by the definitions.
-- file_with         a file at $0900: voice 1 of these ten bytes, voices 2 and 3 HLT alone, five empty lines
-- sixteen_called    voice 1 is DEF 16, a 64th, END, CAL 16, HLT
-- called-accepted  it is accepted: the 64th of DEF 16, the 64th of CAL 16 and HLT are 1 + 1 + 1 events; the
--                  pairs walked are (1 + 2) + (1 + 2) + 1. Before, it was 27 at the DEF
-- called-listed    its listing, in lists of four cells that hold 90 to 93 and 80 to 83: a 64th lasts 720
--                  384ths of a jiffy, so the events are at 0, 720 and 1,440
-- sixteen_early     voice 1 is CAL 16, then DEF 16, a 64th, END, HLT
-- early-refused    it is refused: 'CAL of a number not yet closed by END' is 30 at the CAL. Before, it was
--                  27 there
use Rattle.std.specs.Prelude.{ℕ, ◌≡◌, refl, List, [], ◌∷◌, ◌++◌}
use Rattle.refusals.specs.Numbers.Outcome.{accepted, refused}
use Rattle.fields.specs.Numbers.{le16}
use Rattle.container.specs.Head.{head_of}
use Rattle.container.specs.Text.{line_bytes, line_of, text_of}
use Rattle.container.specs.Layout.{layout_of, container_tests, container_outcome}
use Rattle.clock.specs.Lengths.{length_of, values_after}
use Rattle.clock.specs.Times.{lengths, sum, time_of, jiffy_of, numbers, jiffies}
use Rattle.bodies.specs.Voice.{pairs_by, pairs}
use Rattle.bodies.specs.Bodies.{inner, outer, with_pair, bodies, body_of}
use Rattle.bodies.specs.Playing.{interpret, phrases, copies, played, events_of, walked_of, depth_of}
use Rattle.structure.specs.Findings.{first_at, pairs_tests, nestings_tests, pairs_finding, structure_finding}
use Rattle.mus.specs.Voices.{voice_by}
use Rattle.mus.specs.Song.{song_by, mus_outcome}
use Rattle.mus.specs.Asked.{asked_by}
use Rattle.walk.specs.Times.{offsets_of, jiffies_of}
use Rattle.events.specs.Listing.{played_by, Listing, listing_by, listing}
use Rattle.phraselaws.specs.Before.{pairs_before}

abbrev pub file_with : List ℕ → List ℕ
file_with voice =
    -- the load address; the lengths 10, 2 and 2
    (0x00 ∷ 0x09 ∷ 0x0A ∷ 0x00 ∷ 0x02 ∷ 0x00 ∷ 0x02 ∷ 0x00 ∷ [])
    ++ voice ++ (0x01 ∷ 0x4F ∷ []) ++ (0x01 ∷ 0x4F ∷ [])
    ++ (0x0D ∷ 0x0D ∷ 0x0D ∷ 0x0D ∷ 0x0D ∷ 0x00 ∷ [])

abbrev pub sixteen_called : List ℕ
sixteen_called = file_with (0x01 ∷ 0x83 ∷ 0x20 ∷ 0x94 ∷ 0x01 ∷ 0x2F ∷ 0x01 ∷ 0x8B ∷ 0x01 ∷ 0x4F ∷ [])

-- A file that defines phrase 16 and calls it is accepted now; before, it was refused with 27 at the DEF.
pub called-accepted : (mus_outcome sixteen_called
    ≡ accepted (record {
      load = 0x0900;
      voice1 = record { offset = 8; length = 10; events = 3; walked = 7 };
      voice2 = record { offset = 18; length = 2; events = 1; walked = 1 };
      voice3 = record { offset = 20; length = 2; events = 1; walked = 1 };
      line1 = record { from = 22; len = 0 };
      line2 = record { from = 23; len = 0 };
      line3 = record { from = 24; len = 0 };
      line4 = record { from = 25; len = 0 };
      line5 = record { from = 26; len = 0 };
    }))
    × (song_by pairs_before sixteen_called ≡ refused 27 8)
unfolding song_by voice_by le16 head_of line_bytes line_of text_of layout_of container_tests container_outcome
    pairs_by pairs pairs_before inner outer with_pair bodies body_of interpret phrases copies played events_of walked_of
    depth_of first_at pairs_tests nestings_tests pairs_finding structure_finding
called-accepted = (refl, refl)

abbrev listed : Listing
listed = listing sixteen_called 1 0 (90 ∷ 91 ∷ 92 ∷ 93 ∷ []) (80 ∷ 81 ∷ 82 ∷ 83 ∷ [])

-- Its first voice fills three cells, and the fourth keeps what it held.
pub called-listed : listed ≡ record { answer = accepted 3; offsets = 10 ∷ 10 ∷ 16 ∷ 93 ∷ []; jiffies = 0 ∷ 1 ∷ 3 ∷ 83 ∷ [] }
unfolding listing_by asked_by played_by offsets_of jiffies_of lengths sum time_of jiffy_of numbers jiffies length_of
    values_after pairs_by pairs inner outer with_pair bodies body_of interpret phrases copies played
called-listed = rw called-accepted.0

abbrev pub sixteen_early : List ℕ
sixteen_early = file_with (0x01 ∷ 0x8B ∷ 0x01 ∷ 0x83 ∷ 0x20 ∷ 0x94 ∷ 0x01 ∷ 0x2F ∷ 0x01 ∷ 0x4F ∷ [])

-- A file that calls phrase 16 before it is defined is refused now too, with 30 at the CAL.
pub early-refused : (mus_outcome sixteen_early ≡ refused 30 8) × (song_by pairs_before sixteen_early ≡ refused 27 8)
unfolding song_by voice_by le16 head_of line_bytes line_of text_of layout_of container_tests container_outcome
    pairs_by pairs pairs_before inner outer with_pair bodies body_of interpret phrases copies played events_of walked_of
    depth_of first_at pairs_tests nestings_tests pairs_finding structure_finding
early-refused = (refl, refl)
