-- `digit_value` meets its contract: each range by its test. Assumes nothing.
use native.Mathlib.Omega.{arith}
use lib.Dec.{leb}
use borrow.Author.Tests.{leb-true}
use Rattle.logic.specs.Truth.{both_left}
use Rattle.characters.proofs.digit_value.Goals as goal

pub overflow_sub-result : goal.overflow_sub-result
overflow_sub-result c = let b = c.args.b in omega (arith, leb-true 0x30 b (both_left (leb 0x30 b) (leb b 0x39) c.if-b.true))

pub returns-then-b : goal.returns-then-b
returns-then-b c = rw c.if-b.true

pub overflow_sub-result-then-b-2 : goal.overflow_sub-result-then-b-2
overflow_sub-result-then-b-2 c =
    let b = c.args.b in
    omega (arith, leb-true 0x41 b (both_left (leb 0x41 b) (leb b 0x46) c.if-b-2.true))

pub returns-then-b-2 : goal.returns-then-b-2
returns-then-b-2 c = rw (c.if-b.false, c.if-b-2.true)

pub returns : goal.returns
returns c = rw (c.if-b.false, c.if-b-2.false)
