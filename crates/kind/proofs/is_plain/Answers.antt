use borrow.Author.Tests.{ne_eqb, lt-ltb}
use Rattle.kind.proofs.is_plain.Goals as goal

pub returns-then-first-eq0 : goal.returns-then-first-eq0
returns-then-first-eq0 c = rw (lt-ltb _ 256 c.ranges.first.fits, lt-ltb _ 256 c.ranges.second.fits, c.if-first-eq0.true)

pub returns-then-first-eq1 : goal.returns-then-first-eq1
returns-then-first-eq1 c = rw (lt-ltb _ 256 c.ranges.first.fits, lt-ltb _ 256 c.ranges.second.fits, ne_eqb _ _ c.if-first-eq0.false, c.if-first-eq1.true, c.plain_second.ensures)

pub returns-else-first-eq1 : goal.returns-else-first-eq1
returns-else-first-eq1 c = rw (lt-ltb _ 256 c.ranges.first.fits, lt-ltb _ 256 c.ranges.second.fits, ne_eqb _ _ c.if-first-eq0.false, ne_eqb _ _ c.if-first-eq1.false, c.plain_first.ensures)
