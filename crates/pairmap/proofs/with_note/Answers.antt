-- `pairmap::with_note` meets its contract, by the value that the note goes by.
use native.Mathlib.Omega.{arith}
use borrow.Author.Tests.{ne_eqb}
use lib.Dec.{lit≤}
use Rattle.pairmap.proofs.Joined.{joined-tempos, joined-utls, joined-utvs}
use Rattle.pairmap.proofs.with_note.Goals as goal

pub more-requires : goal.more-requires
more-requires c =
    let pre = c.requires in
    (pre.0, c.fixed_part.ensures.1, omega (arith, c.open_part.ensures.1, pre.1), lit≤ tt, lit≤ tt)

pub more-requires-then-first-eq0 : goal.more-requires-then-first-eq0
more-requires-then-first-eq0 c =
    let pre = c.requires in
    (pre.0, c.fixed_part-then-first-eq0.ensures.1, lit≤ tt, omega (arith, c.open_part-then-first-eq0.ensures.1, pre.1), lit≤ tt)

pub more-requires-else-first-eq0 : goal.more-requires-else-first-eq0
more-requires-else-first-eq0 c =
    let pre = c.requires in
    (pre.0, c.fixed_part-else-first-eq0.ensures.1, lit≤ tt, lit≤ tt, omega (arith, c.open_part-else-first-eq0.ensures.1, pre.1))

pub returns-then-first-ne1 : goal.returns-then-first-ne1
returns-then-first-ne1 c =
    rw (
      ne_eqb _ _ c.if-first-ne1.true,
      c.more.ensures,
      c.open_part.ensures.0,
      c.fixed_part.ensures.0,
    )
    (joined-tempos c.args.a c.args.n)

pub returns-then-first-eq0 : goal.returns-then-first-eq0
returns-then-first-eq0 c =
    rw (
      c.if-first-ne1.false,
      c.if-first-eq0.true,
      c.more-then-first-eq0.ensures,
      c.open_part-then-first-eq0.ensures.0,
      c.fixed_part-then-first-eq0.ensures.0,
    )
    (joined-utls c.args.a c.args.n)

pub returns-else-first-eq0 : goal.returns-else-first-eq0
returns-else-first-eq0 c =
    rw (
      c.if-first-ne1.false,
      ne_eqb _ _ c.if-first-eq0.false,
      c.more-else-first-eq0.ensures,
      c.open_part-else-first-eq0.ensures.0,
      c.fixed_part-else-first-eq0.ensures.0,
    )
    (joined-utvs c.args.a c.args.n)
