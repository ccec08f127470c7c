-- An answer tells a value from a refusal: a value is below 2^32, and of a refusal the number is above 0 and
-- the place below 2^32. So no value can be taken for a refusal, and no refusal for a value.
-- Apart                        so for an outcome and the value that a call answers
-- upper_half, lower_half         the two halves of an answer: tt_number, and tt_value or tt_place, in C
-- value-apart, refusal_apart   they are 0 and the value, or the refusal's number and place
-- Valued, zero_valued          an answer whose upper half is 0 is a value
-- LowPlace                     a refusal with a number above 0 and a place in a file of at most 65,536 bytes
-- low_fits, unplaced-fits      such a place fits an answer, and so does 0
-- low-apart                    where refusals are low, and values below 2^32, an answer tells them apart
-- tests_low                    so for tests made before an outcome
use Rattle.std.specs.Prelude.{Ok, Err, ℕ, ◌/◌, ◌%◌, ◌≤◌, ◌<◌, ◌≡◌, refl, List}
use Rattle.std.proofs.Common.{arith, lit≤}
use Rattle.refusals.specs.Numbers.{Outcome}
use Rattle.refusals.specs.Numbers.Outcome.{accepted, refused}
use Rattle.refusals.specs.declared.Test.{Test}
use Rattle.refusals.specs.Tests.{Verdict, first_of, guarded}
use Rattle.refusals.specs.Laws.{first_above}
use Rattle.answers.specs.Answers.{packed}

abbrev pub Apart : {A : Type 0} → (A → ℕ) → Outcome A → Type 0
Apart value (accepted a) = value a < 0x100000000
Apart value (refused number place) = (0 < number) × (place < 0x100000000)

abbrev pub upper_half : ℕ → ℕ
upper_half answer = answer / 0x100000000

abbrev pub lower_half : ℕ → ℕ
lower_half answer = answer % 0x100000000

pub record Valued {A : Type 0} (o : Outcome A) : Type 0 where
  pub value : A
  pub is : o ≡ accepted value

abbrev pub LowPlace : {A : Type 0} → Outcome A → Type 0
LowPlace (accepted a) = Unit
LowPlace (refused number place) = (0 < number) × (place ≤ 65536)

-- Where a number is above 0 and a place at most 65,536, as LowPlace says, the place is below 2^32.
pub low_fits : {n p : ℕ} → (0 < n) × (p ≤ 65536) → p < 0x100000000
low_fits h = omega arith

-- A place that is 0 is below 2^32.
pub unplaced-fits : {p : ℕ} → p ≡ 0 → p < 0x100000000
unplaced-fits e = omega arith

module _ {A : Type 0} (value : A → ℕ) where
  -- '`answer >> 32` is 0 .., and the lower half is the value': so for a value below 2^32,
  pub value-apart : (a : A) → Apart value (accepted a)
      → (upper_half (packed value (accepted a)) ≡ 0) × (lower_half (packed value (accepted a)) ≡ value a)
  value-apart a h = (omega arith, omega arith)

  -- or 'the refusal's number, and the lower half is .. the place': so for a place below 2^32.
  pub refusal_apart : (number place : ℕ) → Apart value (refused number place)
      → (upper_half (packed value (refused number place)) ≡ number)
      × (lower_half (packed value (refused number place)) ≡ place)
  refusal_apart number place h = (omega arith, omega arith)

  -- Where value and refusal are apart and the upper half is 0, the outcome is a value.
  pub zero_valued : (o : Outcome A) → Apart value o → upper_half (packed value o) ≡ 0 → Valued o
  zero_valued (accepted a) h e = record { value = a; is = refl }
  zero_valued (refused number place) h e = absurd (omega (arith, h.0, e, (refusal_apart number place h).0))

  -- Where an accepted value is below 2^32 and a refusal is as LowPlace says, the outcome is Apart.
  pub low-apart : (o : Outcome A) → ((a : A) → o ≡ accepted a → value a < 0x100000000) → LowPlace o → Apart value o
  low-apart (accepted a) h l = h a refl
  low-apart (refused number place) h l = (l.0, omega arith)

-- Where an outcome is as LowPlace says, so is the outcome with tests made before it.
pub tests_low : {A : Type 0} (ts : List Test) (o : Outcome A) → LowPlace o → LowPlace (guarded (first_of ts) o)
tests_low ts o h = go (first_of ts) refl
  where
    go : (v : Verdict) → first_of ts ≡ v → LowPlace (guarded v o)
    go (Ok _) e = h
    go (Err r) e = (first_above ts r e, lit≤ tt)
