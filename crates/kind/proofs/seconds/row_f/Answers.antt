use borrow.Author.Tests.{ne_eqb}
use Rattle.kind.proofs.seconds.row_f.Goals as goal

pub returns-in_default : goal.returns-in_default
returns-in_default c =
    let r = c.in_default.in_default-own.rest in
    rw (ne_eqb _ _ r.0.0.1, ne_eqb _ _ r.0.1, ne_eqb _ _ r.1, c.event_unless.ensures)

pub returns-in-15 : goal.returns-in-15
returns-in-15 c = rw c.in-15.is

pub returns-in-47 : goal.returns-in-47
returns-in-47 c = rw c.in-47.is

pub returns-in-79 : goal.returns-in-79
returns-in-79 c = rw c.in-79.is
