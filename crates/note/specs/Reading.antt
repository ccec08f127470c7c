-- Document 01, 'A pair': 'First byte with low bits 00: a note', and 'Second byte'.
-- shape_of                  'Bits 7 and 5: 00 plain, 01 dotted, 10 triplet, 11 double dotted'
-- triplet_or_plain           'triplet when bit 7 is set'
-- utility_of                'Code 1 is utility voice when bit 5 is set (bit 7 then has no meaning), else
--                          utility duration, ..'
-- value_of                  '2 whole, 3 half, 4 quarter, 5 eighth, 6 sixteenth, 7 thirty-second'
-- length_in_byte             'Code is bits 4-2 .. Byte 00 is absolute pitch. Code 0 otherwise is a 64th, ..'
-- letter_of                 '1 to 7 C D E F G A B'
-- double_of, accidental_of   'bits 7-6: 11 flat, 10 natural, 01 sharp, 00 double sharp for C D F G and double
--                          flat for E A B'
-- tone_of                   'bits 2-0, 0 a rest (nothing else counts) .. octave is 7 less bits 5-3'
-- note_of                   the note of two bytes, 'Bit 6 is the tie'
use Rattle.std.specs.Prelude.{ℕ, ◌-◌, ◌/◌, ◌%◌, cond, eqb}
use Rattle.meaning.specs.declared.Duration.{Duration}
use Rattle.meaning.specs.declared.Duration.TheVariants.{Whole, Half, Quarter, Eighth, Sixteenth, ThirtySecond, SixtyFourth, UtilityDuration, UtilityVoice, AbsolutePitch}
use Rattle.meaning.specs.declared.Shape.{Shape}
use Rattle.meaning.specs.declared.Shape.TheVariants.{Plain, Dotted, DoubleDotted, Triplet}
use Rattle.meaning.specs.declared.Letter.{Letter}
use Rattle.meaning.specs.declared.Letter.TheVariants.{C, D, E, F, G, A, B}
use Rattle.meaning.specs.declared.Accidental.{Accidental}
use Rattle.meaning.specs.declared.Accidental.TheVariants.{Flat, Natural, Sharp, DoubleSharp, DoubleFlat}
use Rattle.meaning.specs.declared.Tone.{Tone}
use Rattle.meaning.specs.declared.Tone.TheVariants.{Rest, Sounds}
use Rattle.meaning.specs.declared.Note.{Note}
use Rattle.meaning.specs.Pitches.{double_is_sharp}
use Rattle.note.specs.declared.first.Length.{Length}

abbrev pub shape_of : ℕ → ℕ → Shape
shape_of bit7 bit5 = cond (eqb bit7 0) (cond (eqb bit5 0) Plain Dotted) (cond (eqb bit5 0) Triplet DoubleDotted)

abbrev pub triplet_or_plain : ℕ → Shape
triplet_or_plain bit7 = cond (eqb bit7 0) Plain Triplet

abbrev pub utility_of : ℕ → ℕ → Length
utility_of bit7 bit5 =
    cond (eqb bit5 0)
    (record { duration = UtilityDuration; shape = triplet_or_plain bit7 })
    (record { duration = UtilityVoice; shape = Plain })

abbrev pub value_of : ℕ → Duration
value_of code =
    cond (eqb code 2) Whole
    (cond (eqb code 3) Half
    (cond (eqb code 4) Quarter
    (cond (eqb code 5) Eighth
    (cond (eqb code 6) Sixteenth ThirtySecond))))

abbrev pub length_in_byte : ℕ → Length
length_in_byte a =
    cond (eqb a 0) (record { duration = AbsolutePitch; shape = Plain })
    (cond (eqb (a / 4 % 8) 0) (record { duration = SixtyFourth; shape = triplet_or_plain (a / 128) })
    (cond (eqb (a / 4 % 8) 1) (utility_of (a / 128) (a / 32 % 2))
    (record { duration = value_of (a / 4 % 8); shape = shape_of (a / 128) (a / 32 % 2) })))

abbrev pub letter_of : ℕ → Letter
letter_of k =
    cond (eqb k 1) C
    (cond (eqb k 2) D
    (cond (eqb k 3) E
    (cond (eqb k 4) F
    (cond (eqb k 5) G
    (cond (eqb k 6) A B)))))

abbrev pub double_of : Letter → Accidental
double_of l = cond (double_is_sharp l) DoubleSharp DoubleFlat

abbrev pub accidental_of : ℕ → Letter → Accidental
accidental_of bits l = cond (eqb bits 3) Flat (cond (eqb bits 2) Natural (cond (eqb bits 1) Sharp (double_of l)))

abbrev pub tone_of : ℕ → Tone
tone_of b =
    cond (eqb (b % 8) 0) Rest
    (Sounds (record { letter = letter_of (b % 8); accidental = accidental_of (b / 64) (letter_of (b % 8)); octave = 7 - b / 8 % 8 }))

abbrev pub note_of : ℕ → ℕ → Note
note_of a b = record { duration = (length_in_byte a).duration; shape = (length_in_byte a).shape; tied = eqb (a / 64 % 2) 1; tone = tone_of b }
