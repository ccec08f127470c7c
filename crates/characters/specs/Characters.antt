-- Source 002, 'Part One - Text Header': the characters of a SAP header, and what stands at the front of
-- bytes.
-- digit_value        0-9 mean 0 to 9 and A-F 10 to 15; any other byte is no digit, and has 16
-- is_digit           a digit of a base: 10 or 16
-- is_text_character   'characters with ASCII codes from space to underscore plus all lowercase letters plus
--                   the pipe character', and no quote (house)
-- leading, rest     the bytes before the first that does not pass a test, and the bytes from that one on
-- begins            the first byte is a given one, not 0
-- stands            the bytes begin with those of a word, which has no 0 in it
-- number_from, number_of   the number that digits of a base mean
-- most, digits_of    how many digits stand at the front of bytes, and their number, or `most` where it is
--                   greater
use Rattle.std.specs.Prelude.{ℕ, ◌+◌, ◌-◌, ◌*◌, min, Bool, true, cond, not, ◌&&◌, ◌||◌, List, [], ◌∷◌, length, get_or, drop, ltb, leb, eqb}
use Rattle.characters.specs.declared.Digits.{Digits}

abbrev pub digit_value : ℕ → ℕ
digit_value b = cond (leb 0x30 b && leb b 0x39) (b - 0x30) (cond (leb 0x41 b && leb b 0x46) (b - 0x37) 16)

abbrev pub is_digit : ℕ → ℕ → Bool
is_digit base b = ltb (digit_value b) base

abbrev pub is_text_character : ℕ → Bool
is_text_character b = (leb 0x20 b && leb b 0x5F || leb 0x61 b && leb b 0x7A || eqb b 0x7C) && not (eqb b 0x22)

unfoldable pub leading : (ℕ → Bool) → List ℕ → List ℕ
leading p [] = []
leading p (b ∷ bs) = cond (p b) (b ∷ leading p bs) []

abbrev pub rest : (ℕ → Bool) → List ℕ → List ℕ
rest p s = drop (length (leading p s)) s

abbrev pub begins : ℕ → List ℕ → Bool
begins b s = eqb (get_or s 0 0) b

unfoldable pub stands : List ℕ → List ℕ → Bool
stands [] s = true
stands (b ∷ bs) s = begins b s && stands bs (drop 1 s)

unfoldable pub number_from : ℕ → ℕ → List ℕ → ℕ
number_from base n [] = n
number_from base n (b ∷ bs) = number_from base (n * base + digit_value b) bs

abbrev pub number_of : ℕ → List ℕ → ℕ
number_of base s = number_from base 0 s

abbrev pub most : ℕ
most = 0xFFFFFF

unfoldable pub digits_of : ℕ → List ℕ → Digits
digits_of base s =
    record {
      len = length (leading (is_digit base) s);
      value = min (number_of base (leading (is_digit base) s)) most;
    }
