-- Numbers as text, in ASCII.
-- decimal_in, decimal     the decimal digits of a number, in at most so many; one of 64 bits has at most 20
--                         (any so many that hold it give the same: proofs/Decimal.antt, decimal-enough)
-- hex_digit, hex_digits   the last hex digit of a number, in upper case; the two of a byte
-- signed_digits           a minus sign where a number is negative, and the decimal digits of its size
-- refusal_digits          a refusal's number and place, a space between them
use Rattle.std.specs.Prelude.{ℕ, zero, suc, ◌+◌, ◌/◌, ◌%◌, cond, List, [], ◌∷◌, ◌++◌, ltb, ℤ, pos, negsuc}

unfoldable pub decimal_in : ℕ → ℕ → List ℕ
decimal_in zero n = []
decimal_in (suc k) n = cond (ltb n 10) ((48 + n) ∷ []) (decimal_in k (n / 10) ++ ((48 + n % 10) ∷ []))

unfoldable pub decimal : ℕ → List ℕ
decimal n = decimal_in 20 n

abbrev pub hex_digit : ℕ → ℕ
hex_digit n = cond (ltb (n % 16) 10) (48 + n % 16) (55 + n % 16)

abbrev pub hex_digits : ℕ → List ℕ
hex_digits byte = hex_digit (byte / 16) ∷ hex_digit byte ∷ []

unfoldable pub signed_digits : ℤ → List ℕ
signed_digits (pos n) = decimal n
signed_digits (negsuc n) = 45 ∷ decimal (n + 1)

abbrev pub refusal_digits : ℕ → ℕ → List ℕ
refusal_digits number place = decimal number ++ 32 ∷ decimal place
