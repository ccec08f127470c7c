-- Tests of a pair's two bytes that only events pass, for loops that ask them before a pair's kind;
-- proofs/PlainEvents.antt shows that they do.
-- plain_second         a low nibble of the second byte after 01
-- apart, plain_first   any other first byte: those of low bits 10 whose second byte counts, or that are
--                     unassigned, are left out
-- is_plain             the tests of two bytes
use Rattle.std.specs.Prelude.{ℕ, ◌%◌, Bool, true, not, ◌&&◌, cond, List, [], ◌∷◌, eqb, ltb}
use Rattle.logic.specs.Every.{among}

abbrev pub plain_second : ℕ → Bool
plain_second n = not (among (0x2 ∷ 0x3 ∷ 0x6 ∷ 0xB ∷ 0xF ∷ []) n)

abbrev pub apart : List ℕ
apart = 0x36 ∷ 0x76 ∷ 0xC6 ∷ 0xD6 ∷ 0x6E ∷ 0xA6 ∷ 0x2E ∷ 0xBE ∷ 0xFE ∷ 0x8E ∷ 0xAE ∷ 0xCE ∷ 0xEE ∷ []

abbrev pub plain_first : ℕ → Bool
plain_first a = cond (eqb (a % 4) 2) (not (among apart a)) (eqb (a % 4) 3)

-- of bytes: a number above 255 is none
abbrev pub is_plain : ℕ → ℕ → Bool
is_plain a b = ltb a 256 && ltb b 256 && cond (eqb (a % 4) 0) true (cond (eqb a 1) (plain_second (b % 16)) (plain_first a))
