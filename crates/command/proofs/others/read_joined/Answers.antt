use borrow.Author.Tests.{ne_eqb}
use borrow.Author.Rules.{rules}
use Rattle.signed.specs.Laws.{kept}
use Rattle.command.proofs.Firsts.{joined_as}
use Rattle.command.proofs.others.read_joined.Goals as goal

pub returns-then-first-eq30 : goal.returns-then-first-eq30
returns-then-first-eq30 c = rw (joined_as c.args.first c.args.second (search rules), c.if-first-eq30.true)

pub returns-then-first-eq62 : goal.returns-then-first-eq62
returns-then-first-eq62 c = rw (joined_as c.args.first c.args.second (search rules), ne_eqb _ _ c.if-first-eq30.false, c.if-first-eq62.true, c.read_jif.ensures)

pub returns-then-first-eq10 : goal.returns-then-first-eq10
returns-then-first-eq10 c = rw (joined_as c.args.first c.args.second (search rules), ne_eqb _ _ c.if-first-eq30.false, ne_eqb _ _ c.if-first-eq62.false, c.if-first-eq10.true, kept c.detuning.result c.detuning.type_inv, c.detuning.ensures)

pub returns-then-first-eq3 : goal.returns-then-first-eq3
returns-then-first-eq3 c = rw (joined_as c.args.first c.args.second (search rules), ne_eqb _ _ c.if-first-eq30.false, ne_eqb _ _ c.if-first-eq62.false, ne_eqb _ _ c.if-first-eq10.false, c.if-first-eq3.true)

pub returns : goal.returns
returns c = rw (joined_as c.args.first c.args.second (search rules), ne_eqb _ _ c.if-first-eq30.false, ne_eqb _ _ c.if-first-eq62.false, ne_eqb _ _ c.if-first-eq10.false, ne_eqb _ _ c.if-first-eq3.false, c.into.ensures)
