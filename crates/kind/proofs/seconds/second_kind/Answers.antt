use borrow.Author.Tests.{ne_eqb}
use borrow.Author.Rules.{rules}
use Rattle.kind.proofs.Rows.{second_as}
use Rattle.kind.proofs.seconds.second_kind.Goals as goal

pub returns-in-2 : goal.returns-in-2
returns-in-2 c = rw (← second_as c.args.second (search rules), c.in-2.is)

pub returns-in-3 : goal.returns-in-3
returns-in-3 c = rw (← second_as c.args.second (search rules), c.in-3.is, c.row_3.ensures)

pub returns-in-6 : goal.returns-in-6
returns-in-6 c = rw (← second_as c.args.second (search rules), c.in-6.is)

pub returns-in-11 : goal.returns-in-11
returns-in-11 c = rw (← second_as c.args.second (search rules), c.in-11.is, c.row_b.ensures)

pub returns-in-15 : goal.returns-in-15
returns-in-15 c = rw (← second_as c.args.second (search rules), c.in-15.is, c.row_f.ensures)

pub returns-in_default : goal.returns-in_default
returns-in_default c =
    let r = c.in_default.in_default-own.rest in
    rw (← second_as c.args.second (search rules), ne_eqb _ _ r.0.0.0.0.1, ne_eqb _ _ r.0.0.0.1, ne_eqb _ _ r.0.0.1, ne_eqb _ _ r.0.1, ne_eqb _ _ r.1)
