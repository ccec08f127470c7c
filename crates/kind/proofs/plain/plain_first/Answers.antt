use borrow.Author.Tests.{ne_eqb}
use Rattle.kind.proofs.PlainEvents.{not_among}
use Rattle.kind.specs.Plain.{apart}
use Rattle.kind.proofs.plain.plain_first.Goals as goal

pub returns-then-first-ne2 : goal.returns-then-first-ne2
returns-then-first-ne2 c = rw (ne_eqb _ _ c.if-first-ne2.true)

pub returns-in_default : goal.returns-in_default
returns-in_default c = rw (c.if-first-ne2.false, not_among Unit apart c.args.first c.in_default.in_default-own.rest)

pub returns-in-54 : goal.returns-in-54
returns-in-54 c = rw c.in-54.is

pub returns-in-118 : goal.returns-in-118
returns-in-118 c = rw c.in-118.is

pub returns-in-198 : goal.returns-in-198
returns-in-198 c = rw c.in-198.is

pub returns-in-214 : goal.returns-in-214
returns-in-214 c = rw c.in-214.is

pub returns-in-110 : goal.returns-in-110
returns-in-110 c = rw c.in-110.is

pub returns-in-166 : goal.returns-in-166
returns-in-166 c = rw c.in-166.is

pub returns-in-46 : goal.returns-in-46
returns-in-46 c = rw c.in-46.is

pub returns-in-190 : goal.returns-in-190
returns-in-190 c = rw c.in-190.is

pub returns-in-254 : goal.returns-in-254
returns-in-254 c = rw c.in-254.is

pub returns-in-142 : goal.returns-in-142
returns-in-142 c = rw c.in-142.is

pub returns-in-174 : goal.returns-in-174
returns-in-174 c = rw c.in-174.is

pub returns-in-206 : goal.returns-in-206
returns-in-206 c = rw c.in-206.is

pub returns-in-238 : goal.returns-in-238
returns-in-238 c = rw c.in-238.is
