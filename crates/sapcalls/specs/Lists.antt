-- docs/INTERFACE.md, 'The fields, times and blocks of a SAP file': what stands in the list after a call that
-- accepts.
-- narrowed                   'A count or offset that is greater than 4,294,967,295 is given as 4,294,967,295'
-- flag_number, stated_number   '1 with STEREO, else 0'; '1 where FASTPLAY is stated, else 0'
-- letter_number               'the type's letter in ASCII'
-- init_number, music_number, player_number   the addresses, 0 where the type has none
-- has_player                  '1 where there is a player, else 0': of type D only where it states one
-- kind_numbers                these five together
-- offset_number, length_number, text_numbers   the offset and the length of a text; '0 and 0 where there is
--                            no such tag'
-- sap_numbers                 the header's fields in their order
use Rattle.std.specs.Prelude.{Option, Some, None, ℕ, min, Bool, true, false, List, [], ◌∷◌}
use Rattle.fields.specs.declared.Span.{Span}
use Rattle.sapheader.specs.declared.Player.{Player}
use Rattle.sapheader.specs.declared.Player.TheVariants.{B, C, D, S}
use Rattle.sapheader.specs.declared.Header.{Header}

abbrev pub narrowed : ℕ → ℕ
narrowed n = min n 0xFFFFFFFF

abbrev pub flag_number : Bool → ℕ
flag_number false = 0
flag_number true = 1

abbrev pub stated_number : Option ℕ → ℕ
stated_number None = 0
stated_number (Some value) = 1

abbrev pub letter_number : Player → ℕ
letter_number (B a) = 0x42
letter_number (C a) = 0x43
letter_number (D a) = 0x44
letter_number (S a) = 0x53

abbrev pub init_number : Player → ℕ
init_number (B a) = a.init
init_number (C a) = 0
init_number (D a) = a.init
init_number (S a) = a.init

abbrev pub music_number : Player → ℕ
music_number (B a) = 0
music_number (C a) = a.music
music_number (D a) = 0
music_number (S a) = 0

-- the player routine that type D may have
abbrev pub routine_number : Option ℕ → ℕ
routine_number None = 0
routine_number (Some address) = address

abbrev pub has_routine : Option ℕ → ℕ
has_routine None = 0
has_routine (Some address) = 1

abbrev pub player_number : Player → ℕ
player_number (B a) = a.player
player_number (C a) = a.player
player_number (D a) = routine_number a.player
player_number (S a) = 0

abbrev pub has_player : Player → ℕ
has_player (B a) = 1
has_player (C a) = 1
has_player (D a) = has_routine a.player
has_player (S a) = 0

abbrev pub kind_numbers : Player → List ℕ
kind_numbers p = letter_number p ∷ init_number p ∷ music_number p ∷ player_number p ∷ has_player p ∷ []

abbrev pub offset_number : Option Span → ℕ
offset_number None = 0
offset_number (Some s) = narrowed s.from

abbrev pub length_number : Option Span → ℕ
length_number None = 0
length_number (Some s) = narrowed s.len

abbrev pub text_numbers : Option Span → List ℕ
text_numbers t = offset_number t ∷ length_number t ∷ []

abbrev pub sap_numbers : Header → List ℕ
sap_numbers h =
    letter_number h.player
    ∷ h.songs
    ∷ h.default
    ∷ flag_number h.stereo
    ∷ flag_number h.ntsc
    ∷ flag_number h.covox
    ∷ h.fastplay
    ∷ stated_number h.stated
    ∷ init_number h.player
    ∷ music_number h.player
    ∷ player_number h.player
    ∷ has_player h.player
    ∷ offset_number h.author
    ∷ length_number h.author
    ∷ offset_number h.name
    ∷ length_number h.name
    ∷ offset_number h.date
    ∷ length_number h.date
    ∷ narrowed h.times
    ∷ narrowed h.blocks
    ∷ narrowed h.first
    ∷ []
