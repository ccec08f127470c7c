-- `structure::nesting::pass` meets its contract.
use mathlib.Core.Path.{subst}
use Rattle.kind.specs.Kinds.{Numbered}
use Rattle.structure.proofs.Openers.{none-asked, event-on, bad-on, cal-off, cal-on, hlt-off, hlt-on, hed-any, tal-any, end-any}
use Rattle.structure.proofs.nesting.pass.Goals as goal

pub opens_repeat-requires : goal.opens_repeat-requires
opens_repeat-requires c = c.requires.0

pub opens_phrase-requires : goal.opens_phrase-requires
opens_phrase-requires c = subst Numbered c.in-Def.is c.requires.2

pub returns-in-Event : goal.returns-in-Event
returns-in-Event c = rw (c.in-Event.is, c.on.ensures) (event-on c.args.o)

pub returns-in-Hed : goal.returns-in-Hed
returns-in-Hed c = rw c.in-Hed.is (hed-any c.args.o c.in-Hed.n c.args.closed c.opens_repeat.result c.opens_repeat.ensures)

pub returns-in-Tal : goal.returns-in-Tal
returns-in-Tal c = rw c.in-Tal.is (tal-any c.args.o c.args.closed c.closes_repeat.result c.closes_repeat.ensures)

pub returns-in-Def : goal.returns-in-Def
returns-in-Def c = rw c.in-Def.is c.opens_phrase.ensures

pub returns-in-End : goal.returns-in-End
returns-in-End c = rw c.in-End.is (end-any c.args.o c.args.closed c.closes_phrase.result c.closes_phrase.ensures)

pub returns-then-closed : goal.returns-then-closed
returns-then-closed c = rw (c.in-Cal.is, c.if-closed.true, c.on-then-closed.ensures) (cal-on c.args.o _)

pub returns-else-closed : goal.returns-else-closed
returns-else-closed c = rw (c.in-Cal.is, c.if-closed.false) (cal-off c.args.o c.in-Cal.field-0)

pub returns-then-o-is_none : goal.returns-then-o-is_none
returns-then-o-is_none c = rw (c.in-Hlt.is, c.on-then-o-is_none.ensures) (hlt-on c.args.o (rw (none-asked _ _ c.is_none.ensures) at c.if-o-is_none.true))

pub returns-else-o-is_none : goal.returns-else-o-is_none
returns-else-o-is_none c = rw c.in-Hlt.is (hlt-off c.args.o (rw (none-asked _ _ c.is_none.ensures) at c.if-o-is_none.false))

pub returns-in-Bad : goal.returns-in-Bad
returns-in-Bad c = rw (c.in-Bad.is, c.on-in-Bad.ensures) (bad-on c.args.o c.in-Bad.field-0)
