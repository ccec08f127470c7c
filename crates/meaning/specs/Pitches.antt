-- Document 01, 'A pair', the second byte of a note: which pitches there are, and the half-step of each.
-- double_is_sharp, has_accidental   '00 double sharp for C D F G and double flat for E A B'
-- in_tables              a pitch that some second byte has: octave 0 to 7, and an accidental of its letter
-- letter_step            '0 2 4 5 7 9 11 for C to B'
-- raised_by, lowered_by   the accidental, as half-steps up and down
-- half_step              '12 × octave + .. + accidental, so -1 to 96'
-- step_outcome           the call's answer: 43 outside the tables
use Rattle.std.specs.Prelude.{ℕ, ◌+◌, ◌*◌, Bool, true, false, not, ◌&&◌, cond, leb, ℤ}
use Rattle.std.proofs.Math.IntN.{sub_ℕ}
use Rattle.meaning.specs.declared.Letter.{Letter}
use Rattle.meaning.specs.declared.Letter.TheVariants.{C, D, E, F, G, A, B}
use Rattle.meaning.specs.declared.Accidental.{Accidental}
use Rattle.meaning.specs.declared.Accidental.TheVariants.{Flat, Natural, Sharp, DoubleSharp, DoubleFlat}
use Rattle.meaning.specs.declared.Pitch.{Pitch}
use Rattle.refusals.specs.declared.Reason.TheVariants.{NoPair}
use Rattle.refusals.specs.Numbers.{Outcome, number_of}
use Rattle.refusals.specs.Numbers.Outcome.{accepted, refused}

abbrev pub double_is_sharp : Letter → Bool
double_is_sharp C = true
double_is_sharp D = true
double_is_sharp E = false
double_is_sharp F = true
double_is_sharp G = true
double_is_sharp A = false
double_is_sharp B = false

abbrev pub has_accidental : Letter → Accidental → Bool
has_accidental l Flat = true
has_accidental l Natural = true
has_accidental l Sharp = true
has_accidental l DoubleSharp = double_is_sharp l
has_accidental l DoubleFlat = not (double_is_sharp l)

abbrev pub in_tables : Pitch → Bool
in_tables p = has_accidental p.letter p.accidental && leb p.octave 7

abbrev pub letter_step : Letter → ℕ
letter_step C = 0
letter_step D = 2
letter_step E = 4
letter_step F = 5
letter_step G = 7
letter_step A = 9
letter_step B = 11

abbrev pub raised_by : Accidental → ℕ
raised_by Flat = 0
raised_by Natural = 0
raised_by Sharp = 1
raised_by DoubleSharp = 2
raised_by DoubleFlat = 0

abbrev pub lowered_by : Accidental → ℕ
lowered_by Flat = 1
lowered_by Natural = 0
lowered_by Sharp = 0
lowered_by DoubleSharp = 0
lowered_by DoubleFlat = 2

abbrev pub half_step : Pitch → ℤ
half_step p = sub_ℕ (12 * p.octave + letter_step p.letter + raised_by p.accidental) (lowered_by p.accidental)

abbrev pub step_outcome : Pitch → Outcome ℤ
step_outcome p = cond (in_tables p) (accepted (half_step p)) (refused (number_of NoPair) 0)
