-- `structure::single::unless_last` meets its contract.

use Rattle.structure.proofs.single.unless_last.Goals as goal

pub returns-then-last : goal.returns-then-last
returns-then-last c = rw c.if-last.true

pub returns-else-last : goal.returns-else-last
returns-else-last c = rw c.if-last.false
