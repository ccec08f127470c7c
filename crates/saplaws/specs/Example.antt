-- Source 002's example file, read by hand.
-- example           its bytes
-- example-lines     its lines, where each begins, and where FF FF stands
-- example-header    it is accepted, with this header
-- example-times     what its three TIME lines state
use Rattle.std.specs.Prelude.{Some, None, ℕ, ◌≡◌, refl, false, List, [], ◌∷◌}
use Prim.Native.String.{String}
use Rattle.fields.specs.Numbers.{le16}
use Rattle.refusals.specs.Numbers.Outcome.{accepted}
use Rattle.characters.specs.Characters.{leading, stands, number_from, digits_of}
use Rattle.fields.specs.Parts.{byte_text}
use Rattle.saptags.specs.Tags.{tag_at}
use Rattle.saplines.specs.Lines.{argument_after, line_at}
use Rattle.sapblocks.specs.Blocks.{blocks_from, blocks_in}
use Rattle.saptext.specs.Text.{StoredLine, cut, text_from, text_in}
use Rattle.saptext.specs.Text.Text.{ended}
use Rattle.saptext.specs.Stated.{given, nth_of, time_of}
use Rattle.saprules.specs.Against.{type_against, against}
use Rattle.sapheader.specs.declared.Player.TheVariants as player
use Rattle.sapheader.specs.Header.{header_for}
use Rattle.sap.specs.FirstLine.{first_line}
use Rattle.sap.specs.Answers.{sap_tests, header_in, sap_outcome, lines_in}
use Rattle.saplaws.specs.Files.{file_of}

-- two blocks: 0600 to 0601 and 2025 to 2027
abbrev example_data : List ℕ
example_data =
    0xFF ∷ 0xFF ∷ 0x00 ∷ 0x06 ∷ 0x01 ∷ 0x06 ∷ 0xAB ∷ 0xCD ∷ 0x25 ∷ 0x20 ∷ 0x27 ∷ 0x20 ∷ 0x01 ∷ 0x42 ∷ 0xA3 ∷ []

abbrev pub example : List ℕ
example =
    file_of
    (byte_text "AUTHOR \"Jakub Husak\""
    ∷ byte_text "NAME \"Inside\""
    ∷ byte_text "DATE \"1990\""
    ∷ byte_text "SONGS 3"
    ∷ byte_text "TYPE B"
    ∷ byte_text "INIT 0F80"
    ∷ byte_text "PLAYER 247F"
    ∷ byte_text "TIME 06:37.62"
    ∷ byte_text "TIME 02:34.02 LOOP"
    ∷ byte_text "TIME 00:15.40 LOOP"
    ∷ [])
    example_data

abbrev pub line_from : ℕ → String → StoredLine
line_from from text = record { from = from; bytes = byte_text text }

-- The lines of the example and where each begins; FF FF stands at 151.
pub example-lines :
    text_in example
    ≡ ended
    (line_from 5 "AUTHOR \"Jakub Husak\""
    ∷ line_from 27 "NAME \"Inside\""
    ∷ line_from 42 "DATE \"1990\""
    ∷ line_from 55 "SONGS 3"
    ∷ line_from 64 "TYPE B"
    ∷ line_from 72 "INIT 0F80"
    ∷ line_from 83 "PLAYER 247F"
    ∷ line_from 96 "TIME 06:37.62"
    ∷ line_from 111 "TIME 02:34.02 LOOP"
    ∷ line_from 131 "TIME 00:15.40 LOOP"
    ∷ [])
    151
unfolding cut text_from
example-lines = refl

-- The example is accepted: type B, its routines, three songs, its texts without their quotes, and two blocks.
pub example-header :
    sap_outcome example
    ≡ accepted
    (record {
      player = player.B (record { init = 0x0F80; player = 0x247F });
      songs = 3;
      default = 0;
      stereo = false;
      ntsc = false;
      covox = false;
      stated = None;
      fastplay = 312;
      author = Some (record { from = 13; len = 11 });
      name = Some (record { from = 33; len = 6 });
      date = Some (record { from = 48; len = 4 });
      times = 3;
      blocks = 2;
      first = 151;
    })
unfolding sap_outcome sap_tests header_in first_line header_for against type_against nth_of text_from cut blocks_in blocks_from le16 line_at argument_after tag_at stands leading number_from digits_of
example-header = refl

-- The example's songs last 6:37.62, 2:34.02 and 0:15.40: twice the milliseconds, 1 more where LOOP follows.
pub example-times :
    (time_of 0 (lines_in (text_in example)) ≡ given 102 795240)
    × (time_of 1 (lines_in (text_in example)) ≡ given 117 308041)
    × (time_of 2 (lines_in (text_in example)) ≡ given 137 30801)
unfolding nth_of text_from cut line_at argument_after tag_at stands leading number_from digits_of
example-times = (refl, refl, refl)
