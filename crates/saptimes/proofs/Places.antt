-- Digits read from lent bytes. Assumes nothing.
-- digits-inside   they lie in the bytes
-- digits-small, product-fits   numbers that fit
use Prim.Native.Nat.{ℕ, ◌*◌, ◌≤◌}
use mathlib.Core.Path.{◌≡◌}
use mathlib.Core.List.{List}
use native.Mathlib.Omega.{arith}
use native.Mathlib.Nat.{mul-le-mul}
use lib.ListN.{length}
use lib.Dec.{eqb}
use Rattle.logic.specs.Cases.{cases}
use Rattle.characters.specs.declared.Digits.{Digits}
use Rattle.characters.specs.Characters.{digits_of, most}
use Rattle.saparguments.specs.Laws.{digits-within}
use Rattle.saptimes.specs.Times.{thousandths}

pub digits-inside : (base : ℕ) (s : List ℕ) (d : Digits) → d ≡ digits_of base s → d.len ≤ length s
digits-inside base s d e = rw e (digits-within base s)

-- digits are a number of at most `most`
pub digits-small : (base : ℕ) (s : List ℕ) (d : Digits) → d ≡ digits_of base s → d.value ≤ most
unfolding digits_of
digits-small base s d e = rw e (omega arith)

-- a unit of a fraction is at most a tenth
unit_small : (n : ℕ) → thousandths n ≤ 100
unit_small n = cases (eqb n 1) (λ p. rw p (omega arith)) (λ p. cases (eqb n 2) (λ q. rw (p, q) (omega arith)) (λ q. rw (p, q) (omega arith)))

pub product-fits : (base : ℕ) (s : List ℕ) (d : Digits) (unit : ℕ) → d ≡ digits_of base s → unit ≡ thousandths d.len → d.value * unit ≤ most * 100
product-fits base s d unit e u = let small : unit ≤ 100 = omega (arith, u, unit_small d.len) in mul-le-mul (digits-small base s d e) small
