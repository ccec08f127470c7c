use mathlib.Core.Path.{sym, ap, ◌∙◌}
use Rattle.refusals.specs.Numbers.{outcome_of}
use Rattle.paircalls.proofs.HalfSteps.{stepped-fits}
use Rattle.paircalls.proofs.half_step.Goals as goal

pub refused-requires : goal.refused-requires
refused-requires c = stepped-fits c.args.code (ap outcome_of (sym c.in-Err.is) ∙ c.stepped.ensures)
