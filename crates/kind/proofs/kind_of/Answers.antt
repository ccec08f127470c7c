use borrow.Author.Tests.{ne_eqb}
use Rattle.kind.proofs.kind_of.Goals as goal

pub returns-then-first-eq0 : goal.returns-then-first-eq0
returns-then-first-eq0 c = rw c.if-first-eq0.true

pub returns-then-first-eq1 : goal.returns-then-first-eq1
returns-then-first-eq1 c = rw (ne_eqb _ _ c.if-first-eq0.false, c.if-first-eq1.true, c.second_kind.ensures)

pub returns-else-first-eq1 : goal.returns-else-first-eq1
returns-else-first-eq1 c = rw (ne_eqb _ _ c.if-first-eq0.false, ne_eqb _ _ c.if-first-eq1.false, c.other_kind.ensures)
