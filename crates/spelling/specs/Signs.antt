-- Document 01, 'A pair', 'Signed' read backwards: the two bytes of a signed value, or 43. A value comes as
-- its sign and its size.
-- slot_of                  a value of -below to above as an unsigned number: a negative one is taken from the
--                         whole
-- of_slot, spelled_signed   'P-S, F-S, AUT whole byte; SCA -7 to 7'
-- jif                     'ten bits', -200 to 757
-- dtn_of, dtn              '11 bits, less 2,048 when bit 4 is set'
-- tps_of, tps              'TPS by 004', zero 0E
-- rtp_of, rtp              'RTP with octaves and remainder of one sign, zero 5B'
use Rattle.std.specs.Prelude.{Option, Some, None, ℕ, ◌+◌, ◌*◌, ◌-◌, ◌/◌, ◌%◌, cond, leb, ltb, ℤ}
use Rattle.signed.specs.declared.Parts.{Parts}
use Rattle.signed.specs.Signs.{parts_of}
use Rattle.meaning.specs.declared.Bytes.{Bytes}
use Rattle.spelling.specs.Counts.{pair, no_bytes, alone, joined}
use Rattle.refusals.specs.Numbers.{Outcome}

abbrev pub slot_of : Parts → ℕ → ℕ → ℕ → Option ℕ
slot_of p below above whole =
    cond p.negative
    (cond (leb p.size below) (Some (whole - p.size)) None)
    (cond (leb p.size above) (Some p.size) None)

abbrev pub of_slot : (ℕ → Outcome Bytes) → Option ℕ → Outcome Bytes
of_slot f (Some n) = f n
of_slot f None = no_bytes

abbrev pub spelled_signed : ℕ → ℤ → ℕ → ℕ → Outcome Bytes
spelled_signed first v below above = of_slot (λ n. alone first n 255) (slot_of (parts_of v) below above 256)

abbrev pub jif : ℤ → Outcome Bytes
jif v = of_slot (λ n. joined n 1023 0x3E 64) (slot_of (parts_of v) 200 757 1024)

abbrev pub dtn_of : Parts → Outcome Bytes
dtn_of p =
    cond p.negative
    (cond (leb p.size 2048) (joined (2048 - p.size) 2047 0x1A 32) no_bytes)
    (cond (leb p.size 2047) (joined p.size 2047 0x0A 32) no_bytes)

abbrev pub dtn : ℤ → Outcome Bytes
dtn v = dtn_of (parts_of v)

abbrev pub tps_of : Parts → Outcome Bytes
tps_of p =
    cond (ltb 95 p.size) no_bytes
    (cond p.negative
    (pair 0xA6 (16 * (11 - p.size % 12) + 2 * (p.size / 12) + 1))
    (pair 0xA6 (16 * (p.size % 12) + 2 * (7 - p.size / 12))))

abbrev pub tps : ℤ → Outcome Bytes
tps v = tps_of (parts_of v)

abbrev pub rtp_of : Parts → Outcome Bytes
rtp_of p =
    cond (ltb 47 p.size) no_bytes
    (cond p.negative
    (pair 0x2E (8 * (11 - p.size % 12) + 3 + p.size / 12))
    (pair 0x2E (8 * (11 + p.size % 12) + 3 - p.size / 12)))

abbrev pub rtp : ℤ → Outcome Bytes
rtp v = rtp_of (parts_of v)
