-- What is written for a number, from the laws of pairs and of codes.
-- PairOf, Answered, answered   a pair of its meaning, or 43 at place 0
-- code-written                 the code of a pair's meaning is written as the pair that document 01 names
-- written-fits                 the place of a refusal is below 2^32
use Prim.Native.Nat.{ℕ, ◌<◌}
use mathlib.Core.Path.{◌≡◌, refl, sym, ◌∙◌, ap, subst}
use Rattle.refusals.specs.Numbers.{Outcome}
use Rattle.refusals.specs.Numbers.Outcome.{accepted, refused}
use Rattle.refusals.specs.Tests.{and_then}
use Rattle.meaning.specs.declared.Meaning.{Meaning}
use Rattle.meaning.specs.declared.Bytes.{Bytes}
use Rattle.pair.specs.Pairs.{spelling_of}
use Rattle.pair.specs.Preferred.{preferred}
use Rattle.pairlaws.specs.Statements.{Means}
use Rattle.pairlaws.proofs.Laws.{reading_and_writing}
use Rattle.codes.specs.Coding.{code_of}
use Rattle.decoding.specs.Decoding.{decoded}
use Rattle.codelaws.proofs.Laws.{coding_and_decoding}
use Rattle.answers.specs.Apart.{unplaced-fits}
use Rattle.paircalls.specs.Written.{written}

pub record PairOf (n : ℕ) (y : Bytes) : Type 0 where
  pub meaning : Meaning
  pub means : Means meaning y.first y.second
  pub code : code_of meaning ≡ n

abbrev pub Answered : ℕ → Outcome Bytes → Type 0
Answered n (accepted y) = PairOf n y
Answered n (refused number place) = (number ≡ 43) × (place ≡ 0)

pub answered : (n : ℕ) → Answered n (written n)
unfolding written
answered n = go (decoded n) refl
  where
    spelled : (m : Meaning) → code_of m ≡ n → (o : Outcome Bytes) → spelling_of m ≡ o → Answered n o
    spelled m code (accepted y) e =
        record { meaning = m; means = reading_and_writing.written_reads m y.first y.second e; code = code }
    spelled m code (refused number place) e = reading_and_writing.unwritten m number place e

    go : (o : Outcome Meaning) → decoded n ≡ o → Answered n (and_then o (λ m. spelling_of m))
    go (accepted m) e = spelled m (coding_and_decoding.decoded-coded n m e) (spelling_of m) refl
    go (refused number place) e = coding_and_decoding.undecoded n number place e

pub code-written : (m : Meaning) (a b : ℕ) → Means m a b → written (code_of m) ≡ accepted (preferred a b)
unfolding written
code-written m a b means =
    let coded = coding_and_decoding.written-coded m record { first = a; second = b; means = means } in
    ap (λ (o : Outcome Meaning). and_then o (λ k. spelling_of k)) coded.back ∙ reading_and_writing.read-written m a b means

pub written-fits : (n : ℕ) {number place : ℕ} → refused number place ≡ written n → place < 0x100000000
written-fits n e = unplaced-fits (subst (Answered n) (sym e) (answered n)).1
