-- `sapcalls::read` meets its contract: a refusal, or 0.
use mathlib.Core.Path.{sym, ap, ◌∙◌}
use Rattle.refusals.specs.Numbers.{outcome_of}
use Rattle.answers.specs.Answers.{packed, no_value}
use Rattle.answers.specs.Filling.{refusal_fits}
use Rattle.sapcalls.proofs.Places.{sap-low}
use Rattle.sapcalls.proofs.read.Goals as goal

pub refused-requires : goal.refused-requires
refused-requires c = refusal_fits (ap outcome_of (sym c.in-Err.is) ∙ c.read.ensures) (sap-low _)

pub returns-in-Err : goal.returns-in-Err
returns-in-Err c = (rw c.number.ensures at c.refused.ensures) ∙ ap (packed no_value) (ap outcome_of (sym c.in-Err.is) ∙ c.read.ensures)

pub returns-in-Ok : goal.returns-in-Ok
returns-in-Ok c = ap (packed no_value) (ap outcome_of (sym c.in-Ok.is) ∙ c.read.ensures)
