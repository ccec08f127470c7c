use Prim.Native.Nat.{ℕ, ◌≤◌, ◌<◌, ◌+◌, ◌*◌, min}
use mathlib.Core.Path.{◌≡◌, subst}
use native.Mathlib.Omega.{arith}
use borrow.Author.Tests.{lt-ltb, le-ltb}
use Rattle.characters.specs.Characters.{is_digit, most}
use Rattle.characters.proofs.Counting.{none_past, none_here}
use Rattle.characters.proofs.Values.{read_more, read_all}
use Rattle.characters.proofs.digits_of.Goals as goal

pub returns-then-base-digit : goal.returns-then-base-digit
returns-then-base-digit c =
    let base = c.args.base in
    let none = le-ltb _ _ (subst (λ (d : ℕ). base ≤ d) c.digit_value-digit.ensures c.if-base-digit.true) in
    read_all c.loop-b.invariant.1 _ c.loop-b.invariant.0 (none_here (is_digit base) _ _ c.loop-b-test.true none)

pub loop-b-preserved : goal.loop-b-preserved
loop-b-preserved c =
    let digit = c.digit_value-digit.ensures in
    let base = c.args.base in
    let is = lt-ltb _ _ (subst (λ (d : ℕ). d < base) digit c.if-base-digit.false) in
    let next = subst (λ (d : ℕ). c.min.result ≡ min (c.loop-b.digits.value * base + d) most) digit c.min.ensures in
    (omega (arith, c.loop-b.invariant.0), read_more c.loop-b.invariant.1 _ c.requires.0 c.loop-b-test.true is next)

pub returns : goal.returns
returns c = read_all c.loop-b.invariant.1 _ c.loop-b.invariant.0 (none_past (is_digit c.args.base) _ _ c.loop-b-test.false)
