-- Kinds as the code tells them from the bytes; proofs/Rows.antt proves them the kinds of source 004's rows.
-- Document 01, 'A pair', first byte 01, corrected by request (ii): 'Unassigned: 53 6F 7F 9F BF CF FF. DEF and
-- CAL nibbles 8-F in the n3 and nB rows mean 16 to 23.'
-- event_unless        an event, or 27 where the pair is unassigned
-- event_if            an event, or 28 where the value is not in its range
-- row3, row_b, row_f   a second byte after 01 whose low nibble is 3, B or F
-- second_kind         every second byte after 01
use Rattle.std.specs.Prelude.{ℕ, ◌+◌, ◌/◌, ◌%◌, Bool, ◌||◌, cond, eqb, leb}
use Rattle.refusals.specs.declared.Reason.TheVariants.{UnassignedPair, ValueRange}
use Rattle.refusals.specs.Numbers.{number_of}
use Rattle.kind.specs.declared.Kind.{Kind}
use Rattle.kind.specs.declared.Kind.TheVariants.{Event, Tal, Def, End, Cal, Hlt, Bad}

abbrev pub event_unless : Bool → Kind
event_unless b = cond b (Bad (number_of UnassignedPair)) Event

abbrev pub event_if : Bool → Kind
event_if b = cond b Event (Bad (number_of ValueRange))

abbrev pub row3 : ℕ → Kind
row3 b = cond (leb 0x80 b) (Def (b / 16 + 8)) (event_unless (eqb b 0x53))

abbrev pub row_b : ℕ → Kind
row_b b = cond (leb 0x80 b) (Cal (b / 16 + 8)) Event

abbrev pub row_f : ℕ → Kind
row_f b =
    cond (eqb b 0x0F) Tal
    (cond (eqb b 0x2F) End
    (cond (eqb b 0x4F) Hlt
    (event_unless (eqb b 0x6F || eqb b 0x7F || eqb b 0x9F || eqb b 0xBF || eqb b 0xCF || eqb b 0xFF))))

abbrev pub second_kind : ℕ → Kind
second_kind b =
    cond (eqb (b % 16) 0x2) (Cal (b / 16))
    (cond (eqb (b % 16) 0x3) (row3 b)
    (cond (eqb (b % 16) 0x6) (Def (b / 16))
    (cond (eqb (b % 16) 0xB) (row_b b)
    (cond (eqb (b % 16) 0xF) (row_f b) Event))))
