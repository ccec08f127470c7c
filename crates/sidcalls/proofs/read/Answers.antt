-- `read` meets its contract: the tests' outcome is that of reading. Assumes nothing.
use mathlib.Core.Path.{ap}
use Rattle.sid.specs.Laws.{read-headed}
use Rattle.answers.specs.Answers.{packed, no_value}
use Rattle.answers.specs.Filling.{refusal_fits}
use Rattle.sidcalls.proofs.Places.{sid_low}
use Rattle.sidcalls.proofs.read.Goals as goal

pub refused-requires : goal.refused-requires
refused-requires c = refusal_fits (read-headed _ _ c.in-Err.ensures) (sid_low _)

pub returns-in-Err : goal.returns-in-Err
returns-in-Err c = rw (c.refused.ensures, c.number.ensures) (ap (packed no_value) (read-headed _ _ c.in-Err.ensures))

pub returns-in-Ok : goal.returns-in-Ok
returns-in-Ok c = ap (packed no_value) (read-headed _ _ c.in-Ok.ensures)
