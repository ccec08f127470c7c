-- Source 004's bit patterns, '7654 3210': what a byte must be, and which of its bits make a number.
-- Symbol   a bit that is 0, a bit that is 1, or a bit of the number (004 writes 0, 1 and n)
-- byte     a byte's pattern, bit 7 first
-- fits     whether a byte fits a pattern
-- number   the number that a byte's n bits make, bit 7 first
use Rattle.std.specs.Prelude.{ℕ, ◌+◌, ◌*◌, ◌/◌, ◌%◌, ◌^◌, Bool, true, ◌&&◌, List, [], ◌∷◌, eqb, length}

pub data Symbol : Type 0 where
  O I n : Symbol

abbrev pub byte : Symbol → Symbol → Symbol → Symbol → Symbol → Symbol → Symbol → Symbol → List Symbol
byte a b c d e f g h = a ∷ b ∷ c ∷ d ∷ e ∷ f ∷ g ∷ h ∷ []

-- the first bit of a pattern that has k more after it
abbrev bit_above : ℕ → ℕ → ℕ
bit_above k x = x / 2 ^ k % 2

abbrev agrees : Symbol → ℕ → Bool
agrees O bit = eqb bit 0
agrees I bit = eqb bit 1
agrees n bit = true

abbrev pub fits : List Symbol → ℕ → Bool
fits [] x = true
fits (s ∷ p) x = agrees s (bit_above (length p) x) && fits p x

abbrev joins : Symbol → ℕ → ℕ → ℕ
joins O bit v = v
joins I bit v = v
joins n bit v = 2 * v + bit

abbrev number_from : ℕ → List Symbol → ℕ → ℕ
number_from v [] x = v
number_from v (s ∷ p) x = number_from (joins s (bit_above (length p) x) v) p x

abbrev pub number : List Symbol → ℕ → ℕ
number = number_from 0
