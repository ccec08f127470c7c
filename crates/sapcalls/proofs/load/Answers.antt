-- `sapcalls::load` meets its contract: a refusal, or 0; memory is as loading leaves it.
use mathlib.Core.Path.{sym, ap, ◌∙◌}
use Rattle.refusals.specs.Numbers.{outcome_of}
use Rattle.answers.specs.Answers.{packed, no_value}
use Rattle.answers.specs.Filling.{refusal_fits}
use Rattle.sapcalls.proofs.Places.{load_low}
use Rattle.sapcalls.proofs.load.Goals as goal

pub refused-requires : goal.refused-requires
refused-requires c = refusal_fits (ap outcome_of (sym c.in-Err.is) ∙ c.load.ensures.answer) (load_low _ _)

pub returns-in-Err : goal.returns-in-Err
returns-in-Err c = record {
  answer = (rw c.number.ensures at c.refused.ensures) ∙ ap (packed no_value) (ap outcome_of (sym c.in-Err.is) ∙ c.load.ensures.answer);
  cells = c.load.ensures.cells;
}

pub returns-in-Ok : goal.returns-in-Ok
returns-in-Ok c = record {
  answer = ap (packed no_value) (ap outcome_of (sym c.in-Ok.is) ∙ c.load.ensures.answer);
  cells = c.load.ensures.cells;
}
