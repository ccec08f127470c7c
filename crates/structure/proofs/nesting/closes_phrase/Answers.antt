-- `structure::nesting::closes_phrase` meets its contract.
use Rattle.structure.proofs.Openers.{end-none, end-off, end_on}
use Rattle.structure.proofs.nesting.closes_phrase.Goals as goal

pub returns-in_default : goal.returns-in_default
returns-in_default c = end-none c.args.o c.in_default.is

pub returns-then-o-ne0 : goal.returns-then-o-ne0
returns-then-o-ne0 c = end-off c.args.o c.if-o-ne0.true

pub returns : goal.returns
returns c = end_on c.args.o c.in-Some.k c.requires c.in-Some.is c.if-o-ne0.false
