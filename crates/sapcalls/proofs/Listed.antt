-- The list of a header's numbers, made of the numbers of its parts. Assumes nothing.
-- numbers_with      the list, of the parts' numbers
-- stated_flag      whether FASTPLAY is stated, as a number
-- numbers-listed   it is the header's where they are those of its parts
use Prim.Native.Nat.{ℕ}
use mathlib.Core.Path.{◌≡◌}
use mathlib.Core.List.{List, [], ◌∷◌}
use Rattle.std.specs.Prelude.{Option, Some, None, Bool, is_some}
use lib.ListN.{get_or}
use Rattle.sapheader.specs.declared.Header.{Header}
use Rattle.sapcalls.specs.Lists.{narrowed, flag_number, stated_number, kind_numbers, text_numbers, sap_numbers}

abbrev pub numbers_with : Header → List ℕ → ℕ → List ℕ → List ℕ → List ℕ → ℕ → ℕ → ℕ → List ℕ
numbers_with h kind stated by called made times blocks first =
    get_or kind 0 0
    ∷ h.songs
    ∷ h.default
    ∷ flag_number h.stereo
    ∷ flag_number h.ntsc
    ∷ flag_number h.covox
    ∷ h.fastplay
    ∷ stated
    ∷ get_or kind 1 0
    ∷ get_or kind 2 0
    ∷ get_or kind 3 0
    ∷ get_or kind 4 0
    ∷ get_or by 0 0
    ∷ get_or by 1 0
    ∷ get_or called 0 0
    ∷ get_or called 1 0
    ∷ get_or made 0 0
    ∷ get_or made 1 0
    ∷ times
    ∷ blocks
    ∷ first
    ∷ []

pub stated_flag : (o : Option ℕ) (b : Bool) → b ≡ is_some o → flag_number b ≡ stated_number o
stated_flag None b e = rw e
stated_flag (Some value) b e = rw e

pub numbers-listed : (h : Header) {kind by called made : List ℕ} {stated times blocks first : ℕ}
    → kind ≡ kind_numbers h.player → stated ≡ stated_number h.stated
    → by ≡ text_numbers h.author → called ≡ text_numbers h.name → made ≡ text_numbers h.date
    → times ≡ narrowed h.times → blocks ≡ narrowed h.blocks → first ≡ narrowed h.first
    → numbers_with h kind stated by called made times blocks first ≡ sap_numbers h
numbers-listed h k s a n d t b f = λ i. numbers_with h (k i) (s i) (a i) (n i) (d i) (t i) (b i) (f i)
