use Rattle.std.proofs.Common.{ap, ◌∙◌}
use Rattle.answers.specs.Answers.{packed}
use Rattle.answers.specs.Filling.{refusal_fits}
use Rattle.muscalls.proofs.Places.{mus_low}
use Rattle.musparts.proofs.load.Goals as goal

pub refused-requires : goal.refused-requires
refused-requires c = refusal_fits c.in-Err.ensures (mus_low _)

pub returns-in-Err : goal.returns-in-Err
returns-in-Err c = rw c.number.ensures at c.refused.ensures ∙ ap (packed (λ s. s.load)) c.in-Err.ensures

pub returns-in-Ok : goal.returns-in-Ok
returns-in-Ok c = ap (packed (λ s. s.load)) c.in-Ok.ensures
