-- Document 02 (i), 53: 'tags against type (none, R, missing, barred) or against SONGS'. What a tag states is
-- a place and a value, or that the tag is absent.
-- is_stated, value_or         a tag is there; its value, or another one where it is absent
-- is_b .. is_s, other_than_c    the type's letter
-- type_against               the tags against the type
-- songs_of, default_of, letter_of   'SONGS .. absent 1', 'DEFSONG .. Defaults to zero'
-- songs_against              'DEFSONG counts from zero and is below SONGS', 'TIME at most SONGS times'
-- against                   either
use Rattle.std.specs.Prelude.{Option, Some, None, ℕ, Bool, not, ◌&&◌, ◌||◌, ltb, leb, eqb}
use Rattle.std.specs.Option.{is_some}
use Rattle.saptags.specs.declared.Tag.{Tag}
use Rattle.saptags.specs.declared.Tag.TheVariants as tag
use Rattle.saptext.specs.declared.Stated.{Stated}

abbrev pub is_stated : Option Stated → Bool
is_stated = is_some

abbrev pub value_or : ℕ → Option Stated → ℕ
value_or other None = other
value_or other (Some s) = s.value

abbrev pub is_b : ℕ → Bool
is_b letter = eqb letter 0x42

abbrev pub is_c : ℕ → Bool
is_c letter = eqb letter 0x43

abbrev pub is_d : ℕ → Bool
is_d letter = eqb letter 0x44

abbrev pub is_s : ℕ → Bool
is_s letter = eqb letter 0x53

abbrev pub other_than_c : ℕ → Bool
other_than_c letter = is_b letter || is_d letter || is_s letter

-- the type's letter, and whether INIT, MUSIC and PLAYER are there
unfoldable pub type_against : ℕ → Bool → Bool → Bool → Bool
type_against letter init music player =
    -- no type, or R
    not (other_than_c letter || is_c letter)
    -- 'INIT is needed for B, D, S and barred for C'
    || other_than_c letter && not init
    || is_c letter && init
    -- 'MUSIC the other way round'
    || is_c letter && not music
    || other_than_c letter && music
    -- 'PLAYER is needed for B and C'
    || (is_b letter || is_c letter) && not player

abbrev pub songs_of : (Tag → Option Stated) → ℕ
songs_of g = value_or 1 (g tag.Songs)

abbrev pub default_of : (Tag → Option Stated) → ℕ
default_of g = value_or 0 (g tag.DefSong)

abbrev pub letter_of : (Tag → Option Stated) → ℕ
letter_of g = value_or 0 (g tag.Type)

abbrev pub songs_against : (Tag → Option Stated) → ℕ → Bool
songs_against g times = leb (songs_of g) (default_of g) || ltb (songs_of g) times

unfoldable pub against : (Tag → Option Stated) → ℕ → Bool
against g times =
    type_against (letter_of g) (is_stated (g tag.Init)) (is_stated (g tag.Music)) (is_stated (g tag.Player)) || songs_against g times
