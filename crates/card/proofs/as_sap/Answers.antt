-- `card::as_sap` meets its contract: by the outcomes of the two readers.
use mathlib.Core.Path.{sym, ap, ◌∙◌}
use Rattle.refusals.specs.Numbers.{outcome_of}
use Rattle.card.proofs.as_sap.Goals as goal

pub returns-in-Ok : goal.returns-in-Ok
returns-in-Ok c = rw (← ap outcome_of (sym c.in-Ok.is) ∙ c.read.ensures)

pub returns-in-Ok-accept : goal.returns-in-Ok-accept
returns-in-Ok-accept c =
    rw (
      ← ap outcome_of (sym c.in-Err.is) ∙ c.read.ensures,
      ← ap outcome_of (sym c.in-Ok-accept.is) ∙ c.accept.ensures,
    )

pub returns-in-Err-accept : goal.returns-in-Err-accept
returns-in-Err-accept c =
    rw (
      ← ap outcome_of (sym c.in-Err.is) ∙ c.read.ensures,
      ← ap outcome_of (sym c.in-Err-accept.is) ∙ c.accept.ensures,
    )
