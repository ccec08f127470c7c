-- Source 002, 'Part One - Text Header', and document 02 (i): the argument of each kind of tag, at the front
-- of bytes. An argument that fits has a length in bytes and a value.
-- good         an argument that fits
-- unpadded     a decimal 'without leading zeros' (house): `0` has none, `00` and `01` have
-- decimal_of, decimal_at    'decimals', from a least to a greatest number: the value is the number
-- address_of, address_at    'exactly four uppercase hex digits': the value is the address
-- covox_of, covox_at   'the only possible address is D600'
-- is_type, letter_at   'one uppercase letter: B, C, D or S', or R: the value is the letter
-- text_of, text_at   'wrapped in doublequotes', 'at most 120 allowed characters without inner quotes': the
--                  value is how many
use Rattle.std.specs.Prelude.{Option, Some, None, ℕ, ◌+◌, Bool, cond, not, ◌&&◌, ◌||◌, List, length, get_or, drop, ltb, leb, eqb}
use Rattle.characters.specs.declared.Digits.{Digits}
use Rattle.characters.specs.Characters.{is_text_character, leading, rest, begins, digits_of}
use Rattle.saparguments.specs.declared.Argument.{Argument}

abbrev pub good : ℕ → ℕ → Option Argument
good n value = Some (record { len = n; value = value })

abbrev pub unpadded : Digits → List ℕ → Bool
unpadded d s = eqb d.len 1 || ltb 1 d.len && not (begins 0x30 s)

abbrev pub decimal_of : ℕ → ℕ → Digits → List ℕ → Option Argument
decimal_of low high d s = cond (unpadded d s && leb low d.value && leb d.value high) (good d.len d.value) None

abbrev pub decimal_at : ℕ → ℕ → List ℕ → Option Argument
decimal_at low high s = decimal_of low high (digits_of 10 s) s

abbrev pub address_of : Digits → Option Argument
address_of d = cond (eqb d.len 4) (good d.len d.value) None

abbrev pub address_at : List ℕ → Option Argument
address_at s = address_of (digits_of 16 s)

abbrev pub covox_of : Digits → Option Argument
covox_of d = cond (eqb d.len 4 && eqb d.value 0xD600) (good d.len d.value) None

abbrev pub covox_at : List ℕ → Option Argument
covox_at s = covox_of (digits_of 16 s)

abbrev pub is_type : ℕ → Bool
is_type b = eqb b 0x42 || eqb b 0x43 || eqb b 0x44 || eqb b 0x53 || eqb b 0x52

abbrev pub letter_at : List ℕ → Option Argument
letter_at s = cond (is_type (get_or s 0 0)) (good 1 (get_or s 0 0)) None

abbrev pub text_of : Bool → Bool → ℕ → Option Argument
text_of opened closed n = cond (opened && closed && leb n 120) (good (n + 2) n) None

abbrev pub text_at : List ℕ → Option Argument
text_at s =
    text_of (begins 0x22 s) (begins 0x22 (rest is_text_character (drop 1 s))) (length (leading is_text_character (drop 1 s)))
