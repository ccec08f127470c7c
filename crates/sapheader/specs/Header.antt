-- Document 02 (i) and source 002: what an accepted file says of itself, by what its tags state.
-- text_for           AUTHOR, NAME, DATE: where the text lies, 'without its quotes'
-- number_for         FASTPLAY and the addresses as stated
-- usual_rate, holds  FASTPLAY as it holds: '312 scanlines for PAL', '262 for NTSC', and for type S 'the
--                    default .. is 78'
-- player_with, player_for   'each kind of player holds the addresses that kind needs'; PLAYER is 'free for D,
--                    read and dropped for S'
-- header_for         the header
use Rattle.std.specs.Prelude.{Option, Some, None, ℕ, Bool, cond}
use Rattle.std.specs.Option.{unwrap_or}
use Rattle.fields.specs.declared.Span.{Span}
use Rattle.saptags.specs.declared.Tag.{Tag}
use Rattle.saptags.specs.declared.Tag.TheVariants as tag
use Rattle.saptext.specs.declared.Stated.{Stated}
use Rattle.sapheader.specs.declared.Player.{Player}
use Rattle.sapheader.specs.declared.Player.TheVariants as player
use Rattle.sapheader.specs.declared.Header.{Header}
use Rattle.saprules.specs.Against.{is_stated, value_or, is_b, is_c, is_d, is_s, songs_of, default_of, letter_of}

abbrev pub text_for : Option Stated → Option Span
text_for None = None
text_for (Some s) = Some (record { from = s.place; len = s.value })

abbrev pub number_for : Option Stated → Option ℕ
number_for None = None
number_for (Some s) = Some s.value

abbrev pub usual_rate : ℕ → Bool → ℕ
usual_rate letter ntsc = cond (is_s letter) 78 (cond ntsc 262 312)

abbrev pub holds : ℕ → Bool → Option Stated → ℕ
holds letter ntsc fastplay = value_or (usual_rate letter ntsc) fastplay

abbrev pub player_with : ℕ → ℕ → ℕ → Option ℕ → Player
player_with letter init music play =
    cond (is_b letter) (player.B (record { init = init; player = unwrap_or play 0 }))
    (cond (is_c letter) (player.C (record { music = music; player = unwrap_or play 0 }))
    (cond (is_d letter) (player.D (record { init = init; player = play })) (player.S (record { init = init }))))

abbrev pub player_for : (Tag → Option Stated) → Player
player_for g = player_with (letter_of g) (value_or 0 (g tag.Init)) (value_or 0 (g tag.Music)) (number_for (g tag.Player))

unfoldable pub header_for : (Tag → Option Stated) → ℕ → ℕ → ℕ → Header
header_for g times blocks first =
    record {
      player = player_for g;
      songs = songs_of g;
      default = default_of g;
      stereo = is_stated (g tag.Stereo);
      ntsc = is_stated (g tag.Ntsc);
      covox = is_stated (g tag.Covox);
      stated = number_for (g tag.FastPlay);
      fastplay = holds (letter_of g) (is_stated (g tag.Ntsc)) (g tag.FastPlay);
      author = text_for (g tag.Author);
      name = text_for (g tag.Name);
      date = text_for (g tag.Date);
      times = times;
      blocks = blocks;
      first = first;
    }
