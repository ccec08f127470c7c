-- `structure::nesting::closes_repeat` meets its contract.
use Rattle.structure.proofs.Openers.{tal-off, tal-on}
use Rattle.structure.proofs.nesting.closes_repeat.Goals as goal

pub returns-then-o-eq0 : goal.returns-then-o-eq0
returns-then-o-eq0 c = tal-off c.args.o c.if-o-eq0.true

pub returns : goal.returns
returns c = rw c.on.ensures (tal-on c.args.o c.if-o-eq0.false)
