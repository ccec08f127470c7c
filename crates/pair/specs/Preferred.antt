-- Document 01, 'A pair': 'Where several pairs mean one thing the writer uses: 64th with bit 5 set; utility
-- voice with bit 7 clear; rest 00; TPS zero 0E; RTP with octaves and remainder of one sign, zero 5B.'
-- preferred_tps       'TPS zero 0E', so not B1
-- preferred_rtp       'octaves and remainder of one sign': where their signs differ, an octave goes from one
--                    to the other
-- preferred          the pair that the writer uses for what a pair means
-- preferred_worked   worked out by hand: TPS B1 is written 0E; RTP 52, an octave up and one half-step down,
--                    B3
use Rattle.std.specs.Prelude.{ℕ, ◌+◌, ◌*◌, ◌-◌, ◌/◌, ◌%◌, ◌≡◌, refl, ◌&&◌, cond, eqb, ltb}
use Rattle.meaning.specs.declared.Bytes.{Bytes}
use Rattle.note.specs.Preferred.{preferred_first, preferred_second}

abbrev pub preferred_tps : ℕ → ℕ
preferred_tps b = cond (eqb b 0xB1) 0x0E b

abbrev pub preferred_rtp : ℕ → ℕ
preferred_rtp b =
    cond (ltb (b % 8) 3 && ltb (b / 8) 11) (8 * (b / 8 + 12) + (b % 8 + 1))
    (cond (ltb 3 (b % 8) && ltb 11 (b / 8)) (8 * (b / 8 - 12) + (b % 8 - 1)) b)

abbrev pub preferred : ℕ → ℕ → Bytes
preferred a b =
    cond (eqb (a % 4) 0) (record { first = preferred_first a; second = preferred_second b })
    (record { first = a; second = cond (eqb a 0xA6) (preferred_tps b) (cond (eqb a 0x2E) (preferred_rtp b) b) })

-- For A6 B1, TPS zero, the writer uses A6 0E; for 2E 52, RTP an octave up and one half-step down, 2E B3.
pub preferred_worked : (preferred 0xA6 0xB1 ≡ record { first = 0xA6; second = 0x0E }) × (preferred 0x2E 0x52 ≡ record { first = 0x2E; second = 0xB3 })
preferred_worked = (refl, refl)
