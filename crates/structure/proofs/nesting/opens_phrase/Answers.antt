-- `structure::nesting::opens_phrase` meets its contract.
use Rattle.structure.proofs.Openers.{def-off, def-on}
use Rattle.structure.proofs.nesting.opens_phrase.Goals as goal

pub returns-then-is_some-closed : goal.returns-then-is_some-closed
returns-then-is_some-closed c = def-off c.args.o c.args.k c.args.closed (rw c.is_some.ensures at c.if-is_some-closed.true)

pub returns : goal.returns
returns c = rw c.on.ensures (def-on c.args.o c.args.k c.args.closed c.requires (rw c.is_some.ensures at c.if-is_some-closed.false))
