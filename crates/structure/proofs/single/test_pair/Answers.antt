-- `structure::single::test_pair` meets its contract.
use mathlib.Core.Path.{ap, subst, ◌∙◌}
use Rattle.std.specs.Prelude.{Err}
use Rattle.kind.specs.Kinds.{Numbered}
use Rattle.structure.proofs.Singles.{bad-either}
use Rattle.structure.proofs.single.test_pair.Goals as goal

pub returns-in-Bad : goal.returns-in-Bad
returns-in-Bad c =
    let is = c.in-Bad.is in
    rw is (ap Err c.refused_pair.ensures ∙ bad-either _ _ (subst Numbered is c.requires))

pub returns-in-Event : goal.returns-in-Event
returns-in-Event c = rw (c.in-Event.is, c.unless_last.ensures)

pub returns-in-Hed : goal.returns-in-Hed
returns-in-Hed c = rw (c.in-Hed.is, c.unless_last-in-Hed.ensures)

pub returns-in-Tal : goal.returns-in-Tal
returns-in-Tal c = rw (c.in-Tal.is, c.unless_last-in-Tal.ensures)

pub returns-in-Def : goal.returns-in-Def
returns-in-Def c = rw (c.in-Def.is, c.unless_last-in-Def.ensures)

pub returns-in-End : goal.returns-in-End
returns-in-End c = rw (c.in-End.is, c.unless_last-in-End.ensures)

pub returns-in-Cal : goal.returns-in-Cal
returns-in-Cal c = rw (c.in-Cal.is, c.unless_last-in-Cal.ensures)

pub returns-in-Hlt : goal.returns-in-Hlt
returns-in-Hlt c = rw (c.in-Hlt.is, c.unless_last-in-Hlt.ensures)
