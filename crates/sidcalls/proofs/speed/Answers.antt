-- `speed` meets its contract: the answer is that of the song's speed. Assumes nothing.
use mathlib.Core.Path.{ap}
use Rattle.answers.specs.Answers.{packed}
use Rattle.answers.specs.Filling.{refusal_fits}
use Rattle.sidcalls.proofs.Places.{speed_low}
use Rattle.sidcalls.proofs.speed.Goals as goal

pub refused-requires : goal.refused-requires
refused-requires c = refusal_fits c.in-Err.ensures (speed_low _ _)

pub returns-in-Err : goal.returns-in-Err
returns-in-Err c = rw (c.refused.ensures, c.number.ensures) (ap (packed (λ bit. bit)) c.in-Err.ensures)

pub returns-in-Ok : goal.returns-in-Ok
returns-in-Ok c = ap (packed (λ bit. bit)) c.in-Ok.ensures
