-- `structure::nesting::opens_repeat` meets its contract.
use Rattle.structure.proofs.Openers.{hed-off, hed-on}
use Rattle.structure.proofs.nesting.opens_repeat.Goals as goal

pub returns-then-n-eq0 : goal.returns-then-n-eq0
returns-then-n-eq0 c = hed-off c.args.o _ c.if-n-eq0.true

pub returns : goal.returns
returns c = rw c.on.ensures (hed-on c.args.o _ c.if-n-eq0.false)
