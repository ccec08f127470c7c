-- Laws of half-steps, for the functions and for the laws of the calls.
-- number-low, tables_number   the number of a half-step: at most 97, and the half-step + 1
-- Stepped, stepped        a code's outcome: a number of at most 97, or 43 at place 0
-- stepped-fits            the place of a refusal is below 2^32
-- half_step-apart, half_step_refusals, tone-stepped, stepped-tone, read_step   the laws of the call
use Prim.Native.Nat.{ℕ, ◌%◌, ◌≤◌, ◌<◌}
use mathlib.Core.Path.{◌≡◌, refl, sym, ◌∙◌, ap, subst}
use mathlib.Core.Bool.{true}
use mathlib.Core.Logic.{◌⊎◌, inl, inr}
use native.Mathlib.Omega.{arith}
use lib.Dec.{T, eqb, leb→le, lit≤}
use lib.IntN.{ℤ, pos, negsuc, ◌+ℤ◌}
use lib.Signed.{le_z}
use borrow.Author.Tests.{eqb-true}
use Rattle.logic.specs.Cases.{cases}
use Rattle.logic.specs.Every.{all_left, all_right}
use Rattle.refusals.specs.Numbers.{Outcome}
use Rattle.refusals.specs.Numbers.Outcome.{accepted, refused}
use Rattle.refusals.specs.Tests.{and_then}
use Rattle.meaning.specs.declared.Pitch.{Pitch}
use Rattle.meaning.specs.declared.Tone.{Tone}
use Rattle.meaning.specs.declared.Tone.TheVariants.{Rest, Sounds}
use Rattle.meaning.specs.declared.Note as declared
use Rattle.meaning.specs.declared.Meaning.TheVariants.{Note}
use Rattle.meaning.specs.declared.Bytes.{Bytes}
use Rattle.meaning.specs.Pitches.{in_tables, half_step}
use Rattle.note.specs.Reading.{tone_of, note_of}
use Rattle.note.proofs.Back.{written-note_reads}
use Rattle.pair.specs.Pairs.{meaning_of}
use Rattle.pair.specs.Preferred.{preferred}
use Rattle.pairlaws.proofs.HalfSteps.{byte_tables, step_range}
use Rattle.pairlaws.proofs.Laws.{reading_and_writing}
use Rattle.codes.specs.Coding.{code_of}
use Rattle.answers.specs.Answers.{packed}
use Rattle.answers.specs.Apart.{Apart, upper_half, unplaced-fits}
use Rattle.paircalls.specs.Written.{written}
use Rattle.paircalls.specs.HalfSteps.{step_number, step_of_tone, step_of_bytes, half_step_outcome, number_step}
use Rattle.paircalls.specs.Statements.{read_answer, step_answer, refused_with, CodeOfTone}
use Rattle.paircalls.proofs.Answered.{PairOf, Answered, answered, code-written}

number-low : (z : ℤ) → T (le_z z (pos 96)) → step_number z ≤ 97
number-low (pos n) t = omega (arith, leb→le n 96 t)
number-low (negsuc n) t = lit≤ tt

tables_number : (p : Pitch) → in_tables p ≡ true
    → (pos (step_number (half_step p)) ≡ half_step p +ℤ pos 1) × (step_number (half_step p) ≤ 97)
tables_number p e =
    let z = half_step p in
    let t = step_range p e in
    let first = all_left (le_z (negsuc 0) z) (le_z z (pos 96)) t in
    let second = all_right (le_z (negsuc 0) z) (le_z z (pos 96)) t in
    (number_step z first, number-low z second)

abbrev Stepped : Outcome ℕ → Type 0
Stepped (accepted v) = v ≤ 97
Stepped (refused number place) = (number ≡ 43) × (place ≡ 0)

tone-answered : (t : Tone) → Stepped (step_of_tone t)
tone-answered Rest = (refl, refl)
tone-answered (Sounds p) = cases (in_tables p) (λ e. rw e (tables_number p e).1) (λ e. rw e (refl, refl))

stepped : (n : ℕ) → Stepped (half_step_outcome n)
unfolding half_step_outcome
stepped n = go (written n) (answered n)
  where
    go : (o : Outcome Bytes) → Answered n o → Stepped (and_then o (λ b. step_of_bytes b))
    go (accepted y) p =
        cases (eqb (y.first % 4) 0) (λ e. rw e (tone-answered (tone_of y.second))) (λ e. rw e (refl, refl))
    go (refused number place) is = is

pub stepped-fits : (n : ℕ) {number place : ℕ} → refused number place ≡ half_step_outcome n → place < 0x100000000
stepped-fits n e = unplaced-fits (subst Stepped (sym e) (stepped n)).1

pub half_step-apart : (n : ℕ) → Apart (λ v. v) (half_step_outcome n)
half_step-apart n = go (half_step_outcome n) (stepped n)
  where
    go : (o : Outcome ℕ) → Stepped o → Apart (λ v. v) o
    go (accepted v) low = omega arith
    go (refused number place) is = (omega arith, omega arith)

pub half_step_refusals : (n : ℕ) → (upper_half (step_answer n) ≡ 0) ⊎ (step_answer n ≡ refused_with 43)
half_step_refusals n = go (half_step_outcome n) (stepped n)
  where
    go : (o : Outcome ℕ) → Stepped o → (upper_half (packed (λ v. v) o) ≡ 0) ⊎ (packed (λ v. v) o ≡ refused_with 43)
    go (accepted v) low = inl (omega arith)
    go (refused number place) is = inr (omega arith)

pub tone-stepped : (n : ℕ) (t : CodeOfTone n) → (pos (step_answer n) ≡ half_step t.pitch +ℤ pos 1) × (step_answer n ≤ 97)
unfolding half_step_outcome
tone-stepped n t =
    let m = Note t.note in
    let h = t.pair in
    let y = preferred h.first h.second in
    let spelled = reading_and_writing.read-written m h.first h.second h.means in
    let reads = written-note_reads t.note y.first y.second spelled in
    let sounds : tone_of y.second ≡ Sounds t.pitch = ap (λ (k : declared.Note). k.tone) reads.1 ∙ t.sounds in
    let tables = byte_tables t.pitch record { byte = y.second; low = reads.3; sounds = sounds } in
    let is : written n ≡ accepted y = ap written (sym t.code) ∙ code-written m h.first h.second h.means in
    rw (is, reads.0, sounds, tables) (tables_number t.pitch tables)

pub stepped-tone : (n : ℕ) → upper_half (step_answer n) ≡ 0 → CodeOfTone n
unfolding half_step_outcome
stepped-tone n e = go (written n) (answered n) e
  where
    sounding : (y : Bytes) → PairOf n y → y.first % 4 ≡ 0 → (t : Tone) → tone_of y.second ≡ t
        → upper_half (packed (λ v. v) (step_of_tone t)) ≡ 0 → CodeOfTone n
    sounding y p note Rest tone e = absurd (omega (arith, e))
    sounding y p note (Sounds pitch) tone e =
        let k = note_of y.first y.second in
        let read : meaning_of y.first y.second ≡ accepted (Note k) = rw note in
        record {
          note = k;
          pitch = pitch;
          sounds = tone;
          pair = record { first = y.first; second = y.second; means = (read, p.means.1, p.means.2) };
          code = ap (packed code_of) (sym read ∙ p.means.0) ∙ p.code;
        }

    go : (o : Outcome Bytes) → Answered n o → upper_half (packed (λ v. v) (and_then o (λ b. step_of_bytes b))) ≡ 0 → CodeOfTone n
    go (accepted y) p e =
        cases (eqb (y.first % 4) 0)
        (λ t. sounding y p (eqb-true (y.first % 4) 0 t) (tone_of y.second) refl (rw t at e))
        (λ t. let none = rw t at e in absurd (omega (arith, none)))
    go (refused number place) is e = absurd (omega (arith, e, is.0))

pub read_step : (a b : ℕ) → a < 256 → b < 256 → (note : declared.Note) (p : Pitch)
    → meaning_of a b ≡ accepted (Note note) → note.tone ≡ Sounds p
    → pos (step_answer (read_answer a b)) ≡ half_step p +ℤ pos 1
read_step a b ha hb note p e sounds =
    (tone-stepped (read_answer a b) record {
      note = note;
      pitch = p;
      sounds = sounds;
      pair = record { first = a; second = b; means = (e, ha, hb) };
      code = sym (ap (packed code_of) e);
    }).0
