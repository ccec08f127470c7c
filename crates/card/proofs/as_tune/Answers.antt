-- `card::as_tune` meets its contract: by the outcome of the reader.
use mathlib.Core.Path.{sym, ap, ◌∙◌}
use Rattle.refusals.specs.Numbers.{outcome_of}
use Rattle.card.specs.Judging.{as_tune}
use Rattle.card.proofs.as_tune.Goals as goal

pub returns-in-Ok : goal.returns-in-Ok
returns-in-Ok c = ap (as_tune c.args.kind) (ap outcome_of (sym c.in-Ok.is) ∙ c.read.ensures)

pub returns-in-Err : goal.returns-in-Err
returns-in-Err c = ap (as_tune c.args.kind) (ap outcome_of (sym c.in-Err.is) ∙ c.read.ensures)
