use mathlib.Core.Path.{sym, ap, ◌∙◌}
use Rattle.refusals.specs.Numbers.{outcome_of}
use Rattle.paircalls.proofs.Answered.{written-fits}
use Rattle.paircalls.proofs.write.Goals as goal

pub refused-requires : goal.refused-requires
refused-requires c = written-fits c.args.code (ap outcome_of (sym c.in-Err.is) ∙ c.written.ensures)
