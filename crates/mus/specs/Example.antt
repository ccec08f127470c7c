-- Document 01, 'Sums on the bench': the 28 bytes there, by the definitions.
-- example            the bytes
-- example-accepted   they are accepted: voice 1, TEM, HED 3, a note, TAL and HLT, has 1 + 3 + 1 events and
--                    walks 1 + (1 + 3 × (1 + 1)) + 1 pairs; voices 2 and 3 are HLT alone
use Rattle.std.specs.Prelude.{ℕ, ◌≡◌, refl, List, [], ◌∷◌}
use Rattle.refusals.specs.Numbers.Outcome.{accepted}
use Rattle.fields.specs.Numbers.{le16}
use Rattle.container.specs.Head.{head_of}
use Rattle.container.specs.Text.{line_bytes, line_of, text_of}
use Rattle.container.specs.Layout.{layout_of, container_tests, container_outcome}
use Rattle.bodies.specs.Voice.{pairs_by, pairs}
use Rattle.bodies.specs.Bodies.{inner, outer, with_pair, bodies, body_of}
use Rattle.bodies.specs.Playing.{interpret, phrases, copies, played, events_of, walked_of, depth_of}
use Rattle.structure.specs.Findings.{first_at, pairs_tests, nestings_tests, pairs_finding, structure_finding}
use Rattle.mus.specs.Voices.{voice_by}
use Rattle.mus.specs.Song.{song_by, mus_outcome}

abbrev pub example : List ℕ
example =
    0x00 ∷ 0x09 ∷ 0x0A ∷ 0x00 ∷ 0x02 ∷ 0x00 ∷ 0x02 ∷ 0x00 ∷ 0x06 ∷ 0x78 ∷ 0x36 ∷ 0x03 ∷ 0x20 ∷ 0x94 ∷ 0x01 ∷ 0x0F ∷ 0x01 ∷ 0x4F ∷ 0x01 ∷ 0x4F ∷ 0x01 ∷ 0x4F ∷ 0x0D ∷ 0x0D ∷ 0x0D ∷ 0x0D ∷ 0x0D ∷ 0x00 ∷ []

-- The paper's file is accepted, and this is reported of it.
pub example-accepted : mus_outcome example
    ≡ accepted (record {
      load = 0x0900;
      voice1 = record { offset = 8; length = 10; events = 5; walked = 9 };
      voice2 = record { offset = 18; length = 2; events = 1; walked = 1 };
      voice3 = record { offset = 20; length = 2; events = 1; walked = 1 };
      line1 = record { from = 22; len = 0 };
      line2 = record { from = 23; len = 0 };
      line3 = record { from = 24; len = 0 };
      line4 = record { from = 25; len = 0 };
      line5 = record { from = 26; len = 0 };
    })
unfolding song_by voice_by le16 head_of line_bytes line_of text_of layout_of container_tests container_outcome pairs_by pairs inner outer with_pair bodies body_of interpret phrases copies played events_of walked_of depth_of first_at pairs_tests nestings_tests pairs_finding structure_finding
example-accepted = refl
