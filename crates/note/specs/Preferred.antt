-- Document 01, 'A pair': 'Where several pairs mean one thing the writer uses: 64th with bit 5 set; utility
-- voice with bit 7 clear; rest 00'.
-- preferred_first    the first byte that the writer has for the note of a first byte with low bits 00
-- preferred_second   the second byte that the writer has for the tone of a second byte
use Rattle.std.specs.Prelude.{ℕ, ◌+◌, ◌*◌, ◌/◌, ◌%◌, ◌&&◌, cond, eqb}

abbrev pub preferred_first : ℕ → ℕ
preferred_first a =
    cond (eqb a 0) 0
    (cond (eqb (a / 4 % 8) 0) (a / 64 * 64 + 32 + a % 32)
    (cond (eqb (a / 4 % 8) 1 && eqb (a / 32 % 2) 1) (a % 128) a))

abbrev pub preferred_second : ℕ → ℕ
preferred_second b = cond (eqb (b % 8) 0) 0 b
