-- docs/INTERFACE.md, 'What a call answers' and 'The code of a meaning': what holds of the numbers that
-- tt_pair_read, tt_pair_write and tt_half_step answer, for every two bytes and every code.
-- read_answer, write_answer, step_answer   the number that each call answers
-- refused_with   the answer of a refusal with this number, at place 0
-- CodeOfPair    a number that is the code of a meaning that some pair has
-- CodeOfTone    a number that is the code of a note, no rest, that some pair has, with the note's pitch
-- PairAnswers   the laws; proofs/Laws.antt proves them
use Rattle.std.specs.Prelude.{ℕ, ◌*◌, ◌/◌, ◌%◌, ◌≤◌, ◌<◌, ◌≡◌, ◌⊎◌, pos, ◌+ℤ◌}
use Rattle.refusals.specs.Numbers.Outcome.{accepted}
use Rattle.meaning.specs.declared.Pitch.{Pitch}
use Rattle.meaning.specs.declared.Tone.TheVariants.{Sounds}
use Rattle.meaning.specs.declared.Note as declared
use Rattle.meaning.specs.declared.Meaning.{Meaning}
use Rattle.meaning.specs.declared.Meaning.TheVariants.{Note}
use Rattle.meaning.specs.Pitches.{half_step}
use Rattle.pair.specs.Pairs.{meaning_of}
use Rattle.pair.specs.Preferred.{preferred}
use Rattle.pairlaws.specs.Statements.{HasPair}
use Rattle.codes.specs.Coding.{code_of}
use Rattle.answers.specs.Answers.{packed}
use Rattle.answers.specs.Apart.{Apart, upper_half}
use Rattle.paircalls.specs.Written.{bytes_number, written}
use Rattle.paircalls.specs.HalfSteps.{half_step_outcome}

abbrev pub read_answer : ℕ → ℕ → ℕ
read_answer a b = packed code_of (meaning_of a b)

abbrev pub write_answer : ℕ → ℕ
write_answer code = packed bytes_number (written code)

abbrev pub step_answer : ℕ → ℕ
step_answer code = packed (λ n. n) (half_step_outcome code)

abbrev pub refused_with : ℕ → ℕ
refused_with number = number * 0x100000000

pub record CodeOfPair (n : ℕ) : Type 0 where
  pub meaning : Meaning
  pub pair : HasPair meaning
  pub code : code_of meaning ≡ n

pub record CodeOfTone (n : ℕ) : Type 0 where
  pub note : declared.Note
  pub pitch : Pitch
  pub sounds : note.tone ≡ Sounds pitch
  pub pair : HasPair (Note note)
  pub code : code_of (Note note) ≡ n

pub record PairAnswers : Type 0 where
  -- No value of tt_pair_read can be taken for a refusal,
  pub read-apart : (a b : ℕ) → a < 256 → b < 256 → Apart code_of (meaning_of a b)
  -- and none of tt_pair_write.
  pub write_apart : (n : ℕ) → Apart bytes_number (written n)
  -- tt_pair_read answers a value, or 27 or 28 at place 0,
  pub read_refusals : (a b : ℕ) → a < 256 → b < 256
      → (upper_half (read_answer a b) ≡ 0) ⊎ ((read_answer a b ≡ refused_with 27) ⊎ (read_answer a b ≡ refused_with 28))
  -- and tt_pair_write a value, or 43 at place 0.
  pub write_refusals : (n : ℕ) → (upper_half (write_answer n) ≡ 0) ⊎ (write_answer n ≡ refused_with 43)
  -- tt_pair_write answers 43 for a number that is no code of a pair's meaning,
  pub unpaired_refused : (n : ℕ) → (CodeOfPair n → ⊥) → write_answer n ≡ refused_with 43
  -- and for no other number.
  pub refused_unpaired : (n : ℕ) → write_answer n ≡ refused_with 43 → CodeOfPair n → ⊥
  -- The code that was read from a pair is written as the pair that document 01 names for it,
  pub read_write : (a b : ℕ) → a < 256 → b < 256 → upper_half (read_answer a b) ≡ 0
      → write_answer (read_answer a b) ≡ bytes_number (preferred a b)
  -- and that pair has the same code.
  pub read_again : (a b : ℕ) → a < 256 → b < 256 → upper_half (read_answer a b) ≡ 0
      → read_answer (preferred a b).first (preferred a b).second ≡ read_answer a b
  -- The two bytes that were written for a code are read as that code.
  pub write_read : (n : ℕ) → upper_half (write_answer n) ≡ 0 → read_answer (write_answer n / 256) (write_answer n % 256) ≡ n
  -- No value of tt_half_step can be taken for a refusal.
  pub half_step-apart : (n : ℕ) → Apart (λ v. v) (half_step_outcome n)
  -- It answers a value, or 43 at place 0.
  pub half_step_refusals : (n : ℕ) → (upper_half (step_answer n) ≡ 0) ⊎ (step_answer n ≡ refused_with 43)
  -- For the code of a note that is no rest and that some pair has, it answers the half-step + 1 of the note's
  -- pitch, which is at most 97.
  pub tone-stepped : (n : ℕ) (t : CodeOfTone n) → (pos (step_answer n) ≡ half_step t.pitch +ℤ pos 1) × (step_answer n ≤ 97)
  -- A number for which it answers a value is the code of such a note.
  pub stepped-tone : (n : ℕ) → upper_half (step_answer n) ≡ 0 → CodeOfTone n
  -- So it answers the half-step + 1 for the code that tt_pair_read gave for a note that is no rest.
  pub read_step : (a b : ℕ) → a < 256 → b < 256 → (note : declared.Note) (p : Pitch)
      → meaning_of a b ≡ accepted (Note note) → note.tone ≡ Sounds p
      → pos (step_answer (read_answer a b)) ≡ half_step p +ℤ pos 1
