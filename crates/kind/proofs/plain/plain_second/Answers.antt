use mathlib.Core.List.{[], ◌∷◌}
use Rattle.kind.proofs.PlainEvents.{not_among}
use Rattle.kind.proofs.plain.plain_second.Goals as goal

pub returns-in_default : goal.returns-in_default
returns-in_default c = rw (not_among Unit (0x2 ∷ 0x3 ∷ 0x6 ∷ 0xB ∷ 0xF ∷ []) c.args.nibble c.in_default.in_default-own.rest)

pub returns-in-2 : goal.returns-in-2
returns-in-2 c = rw c.in-2.is

pub returns-in-3 : goal.returns-in-3
returns-in-3 c = rw c.in-3.is

pub returns-in-6 : goal.returns-in-6
returns-in-6 c = rw c.in-6.is

pub returns-in-11 : goal.returns-in-11
returns-in-11 c = rw c.in-11.is

pub returns-in-15 : goal.returns-in-15
returns-in-15 c = rw c.in-15.is
