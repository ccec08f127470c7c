-- Laws of answers and of pitches.
-- meaning-once, bytes-once, step-once   no two answers have the same outcome: an equation of outcomes leaves
--                                       the answer no freedom
-- octave_low, letter_low, raised_low   the bounds of a half-step's parts
use Rattle.std.specs.Prelude.{Result, ◌≤◌, ◌≡◌, true, leb, ℤ}
use Rattle.std.proofs.Common.{lit≤, leb-true}
use Rattle.logic.specs.Truth.{both_right}
use Rattle.meaning.specs.declared.Letter.{Letter}
use Rattle.meaning.specs.declared.Letter.TheVariants.{C, D, E, F, G, A, B}
use Rattle.meaning.specs.declared.Accidental.{Accidental}
use Rattle.meaning.specs.declared.Accidental.TheVariants.{Flat, Natural, Sharp, DoubleSharp, DoubleFlat}
use Rattle.meaning.specs.declared.Pitch.{Pitch}
use Rattle.meaning.specs.declared.Bytes.{Bytes}
use Rattle.meaning.specs.declared.Meaning.{Meaning}
use Rattle.refusals.specs.declared.Refusal.{Refusal}
use Rattle.refusals.specs.Numbers.{outcome_of}
use Rattle.refusals.specs.Laws.{outcome-once}
use Rattle.meaning.specs.Pitches.{in_tables, has_accidental, letter_step, raised_by}

-- The octave of a pitch in the tables is at most 7.
pub octave_low : (p : Pitch) → in_tables p ≡ true → p.octave ≤ 7
octave_low p e = leb-true p.octave 7 (both_right (has_accidental p.letter p.accidental) (leb p.octave 7) e)

-- The half-step of a letter is at most 11.
pub letter_low : (l : Letter) → letter_step l ≤ 11
letter_low C = lit≤ tt
letter_low D = lit≤ tt
letter_low E = lit≤ tt
letter_low F = lit≤ tt
letter_low G = lit≤ tt
letter_low A = lit≤ tt
letter_low B = lit≤ tt

-- An accidental raises a letter by at most 2 half-steps.
pub raised_low : (a : Accidental) → raised_by a ≤ 2
raised_low Flat = lit≤ tt
raised_low Natural = lit≤ tt
raised_low Sharp = lit≤ tt
raised_low DoubleSharp = lit≤ tt
raised_low DoubleFlat = lit≤ tt

-- Two answers with a meaning or a refusal that have one outcome are one answer.
pub meaning-once : (a b : Result Meaning Refusal) → outcome_of a ≡ outcome_of b → a ≡ b
meaning-once = outcome-once

-- Two answers with the bytes of a pair or a refusal that have one outcome are one answer.
pub bytes-once : (a b : Result Bytes Refusal) → outcome_of a ≡ outcome_of b → a ≡ b
bytes-once = outcome-once

-- Two answers with a half-step or a refusal that have one outcome are one answer.
pub step-once : (a b : Result ℤ Refusal) → outcome_of a ≡ outcome_of b → a ≡ b
step-once = outcome-once
