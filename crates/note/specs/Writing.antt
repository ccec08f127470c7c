-- Document 01, 'A pair': a note's two bytes, 'Where several pairs mean one thing the writer uses: 64th with
-- bit 5 set; utility voice with bit 7 clear; rest 00'.
-- shape_bits                   bits 7 and 5 of a shape
-- plain_only, plain_or_triplet   bytes of a duration that has not every shape
-- length_byte                  the first byte of an untied note
-- tied_byte                    with the tie, which byte 00 cannot have
-- first_byte                   the first byte of a note
-- letter_number, accidental_bits, tone_byte   the second byte
-- two_bytes, note_spelling      the two bytes, or 43
use Rattle.std.specs.Prelude.{ℕ, ◌+◌, ◌*◌, ◌-◌, Bool, true, false, cond, eqb, Option, Some, None}
use Rattle.meaning.specs.declared.Duration.{Duration}
use Rattle.meaning.specs.declared.Duration.TheVariants.{Whole, Half, Quarter, Eighth, Sixteenth, ThirtySecond, SixtyFourth, UtilityDuration, UtilityVoice, AbsolutePitch}
use Rattle.meaning.specs.declared.Shape.{Shape}
use Rattle.meaning.specs.declared.Shape.TheVariants.{Plain, Dotted, DoubleDotted, Triplet}
use Rattle.meaning.specs.declared.Letter.{Letter}
use Rattle.meaning.specs.declared.Letter.TheVariants.{C, D, E, F, G, A, B}
use Rattle.meaning.specs.declared.Accidental.{Accidental}
use Rattle.meaning.specs.declared.Accidental.TheVariants.{Flat, Natural, Sharp, DoubleSharp, DoubleFlat}
use Rattle.meaning.specs.declared.Tone.{Tone}
use Rattle.meaning.specs.declared.Tone.TheVariants.{Rest, Sounds}
use Rattle.meaning.specs.declared.Note.{Note}
use Rattle.meaning.specs.declared.Bytes.{Bytes}
use Rattle.meaning.specs.Pitches.{in_tables}
use Rattle.refusals.specs.declared.Reason.TheVariants.{NoPair}
use Rattle.refusals.specs.Numbers.{Outcome, number_of}
use Rattle.refusals.specs.Numbers.Outcome.{accepted, refused}

abbrev pub shape_bits : Shape → ℕ
shape_bits Plain = 0
shape_bits Dotted = 32
shape_bits DoubleDotted = 160
shape_bits Triplet = 128

abbrev pub plain_only : ℕ → Shape → Option ℕ
plain_only plain Plain = Some plain
plain_only plain Dotted = None
plain_only plain DoubleDotted = None
plain_only plain Triplet = None

abbrev pub plain_or_triplet : ℕ → ℕ → Shape → Option ℕ
plain_or_triplet plain triplet Plain = Some plain
plain_or_triplet plain triplet Dotted = None
plain_or_triplet plain triplet DoubleDotted = None
plain_or_triplet plain triplet Triplet = Some triplet

abbrev pub length_byte : Duration → Shape → Option ℕ
length_byte Whole s = Some (0x08 + shape_bits s)
length_byte Half s = Some (0x0C + shape_bits s)
length_byte Quarter s = Some (0x10 + shape_bits s)
length_byte Eighth s = Some (0x14 + shape_bits s)
length_byte Sixteenth s = Some (0x18 + shape_bits s)
length_byte ThirtySecond s = Some (0x1C + shape_bits s)
length_byte SixtyFourth s = plain_or_triplet 0x20 0xA0 s
length_byte UtilityDuration s = plain_or_triplet 0x04 0x84 s
length_byte UtilityVoice s = plain_only 0x24 s
length_byte AbsolutePitch s = plain_only 0x00 s

abbrev pub tied_byte : Option ℕ → Bool → Option ℕ
tied_byte None t = None
tied_byte (Some n) false = Some n
tied_byte (Some n) true = cond (eqb n 0) None (Some (n + 64))

abbrev pub first_byte : Duration → Shape → Bool → Option ℕ
first_byte d s t = tied_byte (length_byte d s) t

abbrev pub letter_number : Letter → ℕ
letter_number C = 1
letter_number D = 2
letter_number E = 3
letter_number F = 4
letter_number G = 5
letter_number A = 6
letter_number B = 7

abbrev pub accidental_bits : Accidental → ℕ
accidental_bits Flat = 0xC0
accidental_bits Natural = 0x80
accidental_bits Sharp = 0x40
accidental_bits DoubleSharp = 0
accidental_bits DoubleFlat = 0

abbrev pub tone_byte : Tone → Option ℕ
tone_byte Rest = Some 0
tone_byte (Sounds p) = cond (in_tables p) (Some (accidental_bits p.accidental + 8 * (7 - p.octave) + letter_number p.letter)) None

abbrev pub two_bytes : Option ℕ → Option ℕ → Outcome Bytes
two_bytes None b = refused (number_of NoPair) 0
two_bytes (Some a) None = refused (number_of NoPair) 0
two_bytes (Some a) (Some b) = accepted (record { first = a; second = b })

abbrev pub note_spelling : Note → Outcome Bytes
note_spelling n = two_bytes (first_byte n.duration n.shape n.tied) (tone_byte n.tone)
