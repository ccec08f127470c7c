-- What reading the lines of a header gives: each tag's place and value in a cell of its own.
-- line_end, closed_at, entry_at   what stands at an offset of the file as a line, closed by CR LF (for the
--                              contract of the code)
-- place_of, value_of  the numbers of what a tag states, 0 where it is absent
-- state_of           what a tag states, by these numbers
-- states_of          what a tag states, by the cells
-- which_of           which line of a tag counts: the only one, and of TIME the one of the song asked for
-- cells_of           a cell for each tag, in the order of source 002
-- counts            what each tag states
-- text_read          the cells, how many TIMEs there are and where FF FF stands, for the time of a song; or
--                    that the lines are bad
use Rattle.std.specs.Prelude.{Option, Some, None, ℕ, ◌+◌, cond, List, [], ◌∷◌, length, drop, get_or, eqb}
use Rattle.characters.specs.Characters.{stands}
use Rattle.saptags.specs.declared.Tag.{Tag}
use Rattle.saptags.specs.declared.Tag.TheVariants as tag
use Rattle.saptags.specs.Tags.{name_of, index_of}
use Rattle.saplines.specs.declared.Line.{Line}
use Rattle.saplines.specs.Lines.{line_at}
use Rattle.saptext.specs.declared.Entry.{Entry}
use Rattle.saptext.specs.declared.Lines.{Lines}
use Rattle.saptext.specs.declared.Stated.{Stated}
use Rattle.saptext.specs.Text.{StoredLine, Text}
use Rattle.saptext.specs.Text.Text.{unended, ended}
use Rattle.saptext.specs.Stated.{bad_lines, count_of, given, nth_of}

abbrev pub line_end : List ℕ
line_end = 0x0D ∷ 0x0A ∷ []

abbrev pub closed_at : List ℕ → ℕ → Option Line → Option Entry
closed_at f at None = None
closed_at f at (Some k) =
    cond (stands line_end (drop (at + k.len) f))
    (Some (record { tag = k.tag; stated = record { place = at + length (name_of k.tag) + 2; value = k.value }; next = at + k.len + 2 }))
    None

unfoldable pub entry_at : List ℕ → ℕ → Option Entry
entry_at f at = closed_at f at (line_at (drop at f))

abbrev pub place_of : Option Stated → ℕ
place_of None = 0
place_of (Some s) = s.place

abbrev pub value_of : Option Stated → ℕ
value_of None = 0
value_of (Some s) = s.value

abbrev pub state_of : ℕ → ℕ → Option Stated
state_of place value = cond (eqb place 0) None (given place value)

abbrev pub states_of : List (Option Stated) → Tag → Option Stated
states_of cells t = get_or cells (index_of t) None

abbrev pub which_of : ℕ → Tag → ℕ
which_of song t = cond (eqb (index_of t) (index_of tag.Time)) song 0

abbrev pub cells_of : {A : Type 0} → (Tag → A) → List A
cells_of g =
    g tag.Author
    ∷ g tag.Name
    ∷ g tag.Date
    ∷ g tag.Songs
    ∷ g tag.DefSong
    ∷ g tag.Stereo
    ∷ g tag.Ntsc
    ∷ g tag.Type
    ∷ g tag.FastPlay
    ∷ g tag.Init
    ∷ g tag.Music
    ∷ g tag.Player
    ∷ g tag.Covox
    ∷ g tag.Time
    ∷ []

abbrev pub counts : ℕ → List StoredLine → Tag → Option Stated
counts song ls t = nth_of t (which_of song t) ls

abbrev pub text_read : ℕ → Text → Option Lines
text_read song unended = None
text_read song (ended ls end) =
    cond (bad_lines ls) None (Some (record { end = end; times = count_of tag.Time ls; cells = cells_of (counts song ls) }))
