-- A refusal's number says which tests it is of: 21 to 24 are the head's.
-- EachNumber, first-each   what holds of the number of each test holds of the number that answers
-- head-number              the head's refusals are 24 or less
-- text-number              those of a file whose head is right are above 24
use Rattle.std.specs.Prelude.{ℕ, ◌≤◌, ◌<◌, ◌≡◌, refl, List, [], ◌∷◌, length}
use Rattle.std.proofs.Common.{sym, subst, arith, lit≤, lit<}
use Rattle.logic.specs.Cases.{cases}
use Rattle.refusals.specs.Numbers.{number_of}
use Rattle.refusals.specs.Numbers.Outcome.{accepted, refused}
use Rattle.refusals.specs.Tests.{Verdict}
use Rattle.std.specs.Prelude.{Ok, Err}
use Rattle.refusals.specs.declared.Reason.{Reason}
use Rattle.refusals.specs.declared.Test.{Test}
use Rattle.refusals.specs.Tests.{first_of, guarded}
use Rattle.refusals.specs.Laws.{none_passed, first_append, two_ways}
use Rattle.container.specs.declared.Voices.{Voices}
use Rattle.container.specs.Head.{head_of, voices_of, head_tests, head_outcome}
use Rattle.container.specs.Text.{text_tests}
use Rattle.container.specs.Layout.{text_in, layout_of, container_tests, container_outcome}
use Rattle.container.specs.Laws.{head_none}

module _ (P : ℕ → Type 0) where
  abbrev pub EachNumber : List Test → Type 0
  EachNumber [] = Unit
  EachNumber (t ∷ ts) = P (number_of t.reason) × EachNumber ts

  -- What holds of the number of each test holds of the number with which the tests refuse.
  pub first-each : (ts : List Test) → EachNumber ts → (r : Reason) → first_of ts ≡ Err r → P (number_of r)
  first-each [] h r e = absurd (let z : ◌≡◌ {A = ℕ} 0 1 = cc in omega arith)
  first-each (t ∷ ts) h r e =
      cases t.applies
      (λ b. let q = rw b at e in let is : t.reason ≡ r = cc in subst (λ s. P (number_of s)) is h.0)
      (λ b. first-each ts h.1 r (rw b at e))

-- what tests before a value refuse, they refuse with their own number
guarded-each : {A : Type 0} (P : ℕ → Type 0) (ts : List Test) (a : A) → EachNumber P ts → (n p : ℕ) → guarded (first_of ts) (accepted a) ≡ refused n p → P n
guarded-each P ts a h n p e = go (first_of ts) refl e
  where
    go : (v : Verdict) → first_of ts ≡ v → guarded v (accepted a) ≡ refused n p → P n
    go (Ok u) q r = absurd (two_ways (sym r))
    go (Err m) q r = let is : number_of m ≡ n = cc in subst P is (first-each P ts h m q)

-- The number with which the head of a file is refused is at most 24.
pub head-number : (f : List ℕ) (n p : ℕ) → head_outcome f ≡ refused n p → n ≤ 24
unfolding head_outcome
head-number f n p e = guarded-each (λ k. k ≤ 24) (head_tests (head_of f)) (voices_of (head_of f)) (lit≤ tt, (lit≤ tt, (lit≤ tt, (lit≤ tt, tt)))) n p e

-- Where the head of a file is right and its container is refused, the number is above 24.
pub text-number : (f : List ℕ) (v : Voices) (n p : ℕ) → head_outcome f ≡ accepted v → container_outcome f ≡ refused n p → 24 < n
unfolding container_outcome container_tests
text-number f v n p h e =
    guarded-each (λ k. 24 < k) (text_tests (text_in f) (length f)) (layout_of f) (lit< tt, (lit< tt, tt)) n p
    (rw (first_append (head_tests (head_of f)) (text_tests (text_in f) (length f)), none_passed (head_tests (head_of f)) (head_none f v h).0) at e)
