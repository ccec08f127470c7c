-- The laws of the calls of a pair, from those of pairs, of codes and of half-steps.
-- pair_answers   all the laws
use Prim.Native.Nat.{ℕ, ◌/◌, ◌%◌, ◌<◌}
use mathlib.Core.Path.{◌≡◌, refl, sym, ◌∙◌, ap, subst}
use mathlib.Core.Logic.{◌⊎◌, inl, inr, ⊎_elim}
use native.Mathlib.Omega.{arith}
use Rattle.refusals.specs.Numbers.{Outcome}
use Rattle.refusals.specs.Numbers.Outcome.{accepted, refused}
use Rattle.meaning.specs.declared.Meaning.{Meaning}
use Rattle.meaning.specs.declared.Bytes.{Bytes}
use Rattle.pair.specs.Pairs.{meaning_of}
use Rattle.pair.specs.Preferred.{preferred}
use Rattle.pairlaws.proofs.Laws.{reading_and_writing}
use Rattle.codes.specs.Coding.{code_of}
use Rattle.codelaws.proofs.Laws.{coding_and_decoding}
use Rattle.answers.specs.Answers.{packed}
use Rattle.answers.specs.Apart.{Apart, upper_half, value-apart, zero_valued}
use Rattle.paircalls.specs.Written.{bytes_number, written}
use Rattle.paircalls.specs.Statements.{read_answer, write_answer, refused_with, CodeOfPair, PairAnswers}
use Rattle.paircalls.proofs.Answered.{Answered, answered, code-written}
use Rattle.paircalls.proofs.HalfSteps.{half_step-apart, half_step_refusals, tone-stepped, stepped-tone, read_step}

write_apart : (n : ℕ) → Apart bytes_number (written n)
write_apart n = go (written n) (answered n)
  where
    go : (o : Outcome Bytes) → Answered n o → Apart bytes_number o
    go (accepted y) p = let low = p.means in omega arith
    go (refused number place) is = (omega arith, omega arith)

write_refusals : (n : ℕ) → (upper_half (write_answer n) ≡ 0) ⊎ (write_answer n ≡ refused_with 43)
write_refusals n = go (written n) (answered n) (write_apart n)
  where
    go : (o : Outcome Bytes) → Answered n o → Apart bytes_number o
        → (upper_half (packed bytes_number o) ≡ 0) ⊎ (packed bytes_number o ≡ refused_with 43)
    go (accepted y) p low = inl (value-apart bytes_number y low).0
    go (refused number place) is low = inr (omega arith)

unpaired_refused : (n : ℕ) → (CodeOfPair n → ⊥) → write_answer n ≡ refused_with 43
unpaired_refused n none = go (written n) (answered n)
  where
    go : (o : Outcome Bytes) → Answered n o → packed bytes_number o ≡ refused_with 43
    go (accepted y) p =
        absurd (none record {
          meaning = p.meaning;
          pair = record { first = y.first; second = y.second; means = p.means };
          code = p.code;
        })
    go (refused number place) is = omega arith

refused_unpaired : (n : ℕ) → write_answer n ≡ refused_with 43 → CodeOfPair n → ⊥
refused_unpaired n e c =
    let h = c.pair in
    let low = reading_and_writing.preferred-means c.meaning h.first h.second h.means in
    let is : write_answer n ≡ bytes_number (preferred h.first h.second) =
    ap write_answer (sym c.code) ∙ ap (packed bytes_number) (code-written c.meaning h.first h.second h.means) in
    omega (arith, is, low.1, low.2)

write_read : (n : ℕ) → upper_half (write_answer n) ≡ 0 → read_answer (write_answer n / 256) (write_answer n % 256) ≡ n
write_read n e =
    let v = zero_valued bytes_number (written n) (write_apart n) e in
    let p = subst (Answered n) v.is (answered n) in
    let is : write_answer n ≡ bytes_number v.value = ap (packed bytes_number) v.is in
    let first : write_answer n / 256 ≡ v.value.first = omega (arith, is, p.means.2) in
    let second : write_answer n % 256 ≡ v.value.second = omega (arith, is, p.means.2) in
    rw (first, second) (ap (packed code_of) p.means.0 ∙ p.code)

module _ (a b : ℕ) (ha : a < 256) (hb : b < 256) where
  read-apart : Apart code_of (meaning_of a b)
  read-apart = go (meaning_of a b) refl
    where
      go : (o : Outcome Meaning) → meaning_of a b ≡ o → Apart code_of o
      go (accepted m) e = (coding_and_decoding.written-coded m (record { first = a; second = b; means = (e, ha, hb) })).low
      go (refused number place) e =
          let r = coding_and_decoding.pair-refused a b number place e in
          (⊎_elim (λ x. omega arith) (λ x. omega arith) r.0, omega arith)

  read_refusals : (upper_half (read_answer a b) ≡ 0) ⊎ ((read_answer a b ≡ refused_with 27) ⊎ (read_answer a b ≡ refused_with 28))
  read_refusals = go (meaning_of a b) refl read-apart
    where
      go : (o : Outcome Meaning) → meaning_of a b ≡ o → Apart code_of o
          → (upper_half (packed code_of o) ≡ 0) ⊎ ((packed code_of o ≡ refused_with 27) ⊎ (packed code_of o ≡ refused_with 28))
      go (accepted m) e low = inl (value-apart code_of m low).0
      go (refused number place) e low =
          let r = coding_and_decoding.pair-refused a b number place e in
          inr (⊎_elim (λ x. inl (omega arith)) (λ x. inr (omega arith)) r.0)

  module _ (e : upper_half (read_answer a b) ≡ 0) where
    read_write : write_answer (read_answer a b) ≡ bytes_number (preferred a b)
    read_write =
        let v = zero_valued code_of (meaning_of a b) read-apart e in
        ap (λ (o : Outcome Meaning). write_answer (packed code_of o)) v.is
        ∙ ap (packed bytes_number) (code-written v.value a b (v.is, ha, hb))

    read_again : read_answer (preferred a b).first (preferred a b).second ≡ read_answer a b
    read_again =
        let v = zero_valued code_of (meaning_of a b) read-apart e in
        ap (packed code_of) ((reading_and_writing.preferred-means v.value a b (v.is, ha, hb)).0 ∙ sym v.is)

pub pair_answers : PairAnswers
pair_answers = record {
  read-apart = read-apart;
  write_apart = write_apart;
  read_refusals = read_refusals;
  write_refusals = write_refusals;
  unpaired_refused = unpaired_refused;
  refused_unpaired = refused_unpaired;
  read_write = read_write;
  read_again = read_again;
  write_read = write_read;
  half_step-apart = half_step-apart;
  half_step_refusals = half_step_refusals;
  tone-stepped = tone-stepped;
  stepped-tone = stepped-tone;
  read_step = read_step;
}
