use Rattle.kind.proofs.seconds.event_unless.Goals as goal

pub returns-then-unassigned : goal.returns-then-unassigned
returns-then-unassigned c = rw (c.if-unassigned.true, c.number.ensures)

pub returns-else-unassigned : goal.returns-else-unassigned
returns-else-unassigned c = rw c.if-unassigned.false
