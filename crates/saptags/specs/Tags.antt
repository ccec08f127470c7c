-- Source 002, 'Part One - Text Header': the tags of a SAP header, 'an uppercase tag name and an optional
-- argument'. Document 02 (i): the heading 'SONG' in 002 is a slip, and the name is SONGS.
-- name_of     a tag's name as bytes
-- tags       all fourteen, in 002's order
-- index_of    a tag's number, counted from 0 in that order
-- named_by    a tag where its name stands at the front of bytes, and another answer where it does not
-- tag_in      the first tag of a list whose name stands at the front of bytes
-- tag_at      the same of all tags; no name is the beginning of another, so that the order does not count
use Rattle.std.specs.Prelude.{Option, Some, None, ℕ, List, [], ◌∷◌, cond}
use Rattle.fields.specs.Parts.{byte_text}
use Rattle.characters.specs.Characters.{stands}
use Rattle.saptags.specs.declared.Tag.{Tag}

abbrev pub name_of : Tag → List ℕ
name_of Tag.Author = byte_text "AUTHOR"
name_of Tag.Name = byte_text "NAME"
name_of Tag.Date = byte_text "DATE"
name_of Tag.Songs = byte_text "SONGS"
name_of Tag.DefSong = byte_text "DEFSONG"
name_of Tag.Stereo = byte_text "STEREO"
name_of Tag.Ntsc = byte_text "NTSC"
name_of Tag.Type = byte_text "TYPE"
name_of Tag.FastPlay = byte_text "FASTPLAY"
name_of Tag.Init = byte_text "INIT"
name_of Tag.Music = byte_text "MUSIC"
name_of Tag.Player = byte_text "PLAYER"
name_of Tag.Covox = byte_text "COVOX"
name_of Tag.Time = byte_text "TIME"

abbrev pub tags : List Tag
tags =
    Tag.Author
    ∷ Tag.Name
    ∷ Tag.Date
    ∷ Tag.Songs
    ∷ Tag.DefSong
    ∷ Tag.Stereo
    ∷ Tag.Ntsc
    ∷ Tag.Type
    ∷ Tag.FastPlay
    ∷ Tag.Init
    ∷ Tag.Music
    ∷ Tag.Player
    ∷ Tag.Covox
    ∷ Tag.Time
    ∷ []

abbrev pub index_of : Tag → ℕ
index_of Tag.Author = 0
index_of Tag.Name = 1
index_of Tag.Date = 2
index_of Tag.Songs = 3
index_of Tag.DefSong = 4
index_of Tag.Stereo = 5
index_of Tag.Ntsc = 6
index_of Tag.Type = 7
index_of Tag.FastPlay = 8
index_of Tag.Init = 9
index_of Tag.Music = 10
index_of Tag.Player = 11
index_of Tag.Covox = 12
index_of Tag.Time = 13

abbrev pub named_by : List ℕ → Tag → List ℕ → Option Tag → Option Tag
named_by name t s otherwise = cond (stands name s) (Some t) otherwise

abbrev pub tag_in : List Tag → List ℕ → Option Tag
tag_in [] s = None
tag_in (t ∷ ts) s = named_by (name_of t) t s (tag_in ts s)

unfoldable pub tag_at : List ℕ → Option Tag
tag_at s = tag_in tags s
