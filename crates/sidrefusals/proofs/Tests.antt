-- Two tests are the same where each holds if the other does. Assumes nothing.
-- and_same                the law
-- and_true                what `&&` holds of
-- few-after, none_after   how many bytes lie past a place, without a difference
-- no_payload_lem              test 9 without a difference
use Prim.Native.Nat.{ℕ, ◌+◌, ◌-◌, ◌<◌}
use mathlib.Core.Path.{◌≡◌, refl, sym}
use mathlib.Core.Bool.{Bool, true, false, not, ◌&&◌, ◌||◌}
use native.Mathlib.Omega.{arith}
use lib.Dec.{ltb, leb, eqb, lit<}
use borrow.Author.Tests.{ltb-true, leb-true, eqb-true, lt-ltb, le-leb, eq-eqb}
use Rattle.sidheader.specs.declared.Fields.{Fields}
use Rattle.sidheader.specs.Payload.{addressed}
use Rattle.sidrefusals.specs.PayloadTests.{data_bytes}

pub and_same : (a b : Bool) → (a ≡ true → b ≡ true) → (b ≡ true → a ≡ true) → a ≡ b
and_same true true f g = refl
and_same true false f g = sym (f refl)
and_same false true f g = g refl
and_same false false f g = refl

pub and_true : {a b : Bool} → a ≡ true → b ≡ true → a && b ≡ true
and_true p q = rw (p, q)

module _ (size m : ℕ) where
  pub few-after : (n : ℕ) → 0 < n → ltb (size - m) n ≡ ltb size (m + n)
  few-after n h = and_same (ltb (size - m) n) (ltb size (m + n))
      (λ e. let p = ltb-true (size - m) n e in lt-ltb size (m + n) (omega arith))
      (λ e. let p = ltb-true size (m + n) e in lt-ltb (size - m) n (omega arith))

  pub none_after : eqb (size - m) 0 ≡ leb size m
  none_after = and_same (eqb (size - m) 0) (leb size m)
      (λ e. let p = eqb-true (size - m) 0 e in le-leb size m (omega arith))
      (λ e. let p = leb-true size m e in eq-eqb (size - m) 0 (omega arith))

pub no_payload_lem : (x : Fields)
    → addressed x && ltb (data_bytes x) 3 || not (addressed x) && eqb (data_bytes x) 0
    ≡ addressed x && ltb x.size (x.offset + 3) || not (addressed x) && leb x.size x.offset
no_payload_lem x = rw (few-after x.size x.offset 3 (lit< tt), none_after x.size x.offset)

-- test 10 without a sum that could pass a word
pub past_lem : (load len : ℕ) → load < 65536 → ltb (65536 - load) len ≡ ltb 65536 (load + len)
past_lem load len h = and_same (ltb (65536 - load) len) (ltb 65536 (load + len))
    (λ e. let p = ltb-true (65536 - load) len e in lt-ltb 65536 (load + len) (omega arith))
    (λ e. let p = ltb-true 65536 (load + len) e in lt-ltb (65536 - load) len (omega arith))
