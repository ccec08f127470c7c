-- Laws of a note's two bytes.
-- shape-low, accidental_low, letter_number-low   the bounds of what the bytes are made of
-- Low, length-low          an untied note's first byte is at most 188, so the tie's 64 fits
-- pitch_byte               the second byte of a pitch in the tables
-- That bytes read back as what they were written from, and the other way round, stands in proofs/Back.antt.
use Rattle.std.specs.Prelude.{ℕ, ◌+◌, ◌*◌, ◌-◌, ◌≤◌, Option, Some, None}
use Rattle.std.proofs.Common.{arith, lit≤}
use Rattle.meaning.specs.declared.Duration.{Duration}
use Rattle.meaning.specs.declared.Duration.TheVariants.{Whole, Half, Quarter, Eighth, Sixteenth, ThirtySecond, SixtyFourth, UtilityDuration, UtilityVoice, AbsolutePitch}
use Rattle.meaning.specs.declared.Shape.{Shape}
use Rattle.meaning.specs.declared.Shape.TheVariants.{Plain, Dotted, DoubleDotted, Triplet}
use Rattle.meaning.specs.declared.Letter.{Letter}
use Rattle.meaning.specs.declared.Letter.TheVariants.{C, D, E, F, G, A, B}
use Rattle.meaning.specs.declared.Accidental.{Accidental}
use Rattle.meaning.specs.declared.Accidental.TheVariants.{Flat, Natural, Sharp, DoubleSharp, DoubleFlat}
use Rattle.meaning.specs.declared.Pitch.{Pitch}
use Rattle.note.specs.Writing.{shape_bits, plain_only, plain_or_triplet, length_byte, letter_number, accidental_bits}

-- The bits of a shape are at most 160.
pub shape-low : (s : Shape) → shape_bits s ≤ 160
shape-low Plain = lit≤ tt
shape-low Dotted = lit≤ tt
shape-low DoubleDotted = lit≤ tt
shape-low Triplet = lit≤ tt

-- The bits of an accidental are at most 192.
pub accidental_low : (a : Accidental) → accidental_bits a ≤ 192
accidental_low Flat = lit≤ tt
accidental_low Natural = lit≤ tt
accidental_low Sharp = lit≤ tt
accidental_low DoubleSharp = lit≤ tt
accidental_low DoubleFlat = lit≤ tt

-- The number of a letter is at most 7.
pub letter_number-low : (l : Letter) → letter_number l ≤ 7
letter_number-low C = lit≤ tt
letter_number-low D = lit≤ tt
letter_number-low E = lit≤ tt
letter_number-low F = lit≤ tt
letter_number-low G = lit≤ tt
letter_number-low A = lit≤ tt
letter_number-low B = lit≤ tt

-- a byte, if there is one, of at most 188
abbrev pub Low : Option ℕ → Type 0
Low None = Unit
Low (Some n) = n ≤ 188

shaped-low : (n : ℕ) (s : Shape) → n ≤ 28 → Low (Some (n + shape_bits s))
shaped-low n s h = omega (arith, shape-low s)

plain-only-low : (n : ℕ) (s : Shape) → n ≤ 188 → Low (plain_only n s)
plain-only-low n Plain h = h
plain-only-low n Dotted h = tt
plain-only-low n DoubleDotted h = tt
plain-only-low n Triplet h = tt

plain_or_triplet_low : (n m : ℕ) (s : Shape) → n ≤ 188 → m ≤ 188 → Low (plain_or_triplet n m s)
plain_or_triplet_low n m Plain h k = h
plain_or_triplet_low n m Dotted h k = tt
plain_or_triplet_low n m DoubleDotted h k = tt
plain_or_triplet_low n m Triplet h k = k

-- The first byte of an untied note, if there is one, is at most 188.
pub length-low : (d : Duration) (s : Shape) → Low (length_byte d s)
length-low Whole s = shaped-low 0x08 s (lit≤ tt)
length-low Half s = shaped-low 0x0C s (lit≤ tt)
length-low Quarter s = shaped-low 0x10 s (lit≤ tt)
length-low Eighth s = shaped-low 0x14 s (lit≤ tt)
length-low Sixteenth s = shaped-low 0x18 s (lit≤ tt)
length-low ThirtySecond s = shaped-low 0x1C s (lit≤ tt)
length-low SixtyFourth s = plain_or_triplet_low 0x20 0xA0 s (lit≤ tt) (lit≤ tt)
length-low UtilityDuration s = plain_or_triplet_low 0x04 0x84 s (lit≤ tt) (lit≤ tt)
length-low UtilityVoice s = plain-only-low 0x24 s (lit≤ tt)
length-low AbsolutePitch s = plain-only-low 0x00 s (lit≤ tt)

-- the second byte of a pitch in the tables
abbrev pub pitch_byte : Pitch → ℕ
pitch_byte p = accidental_bits p.accidental + 8 * (7 - p.octave) + letter_number p.letter
