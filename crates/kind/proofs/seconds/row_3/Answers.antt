use borrow.Author.Tests.{le-leb, lt-leb}
use Rattle.kind.proofs.seconds.row_3.Goals as goal

pub returns-then-second-ge128 : goal.returns-then-second-ge128
returns-then-second-ge128 c = rw (le-leb _ _ c.if-second-ge128.true)

pub returns-else-second-ge128 : goal.returns-else-second-ge128
returns-else-second-ge128 c = rw (lt-leb _ _ c.if-second-ge128.false, c.event_unless.ensures)
