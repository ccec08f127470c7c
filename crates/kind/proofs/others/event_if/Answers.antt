use Rattle.kind.proofs.others.event_if.Goals as goal

pub returns-then-within : goal.returns-then-within
returns-then-within c = rw c.if-within.true

pub returns-else-within : goal.returns-else-within
returns-else-within c = rw (c.if-within.false, c.number.ensures)
