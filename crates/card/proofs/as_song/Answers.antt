-- `card::as_song` meets its contract: by the outcomes of the head and of the reader.
use mathlib.Core.Path.{refl, sym, ap, ◌∙◌}
use Rattle.refusals.specs.Numbers.{outcome_of}
use Rattle.card.specs.Laws.{by_outcomes}
use Rattle.card.proofs.as_song.Goals as goal

pub returns-in-Err : goal.returns-in-Err
returns-in-Err c = by_outcomes _ (ap outcome_of (sym c.in-Err.is) ∙ c.read_head.ensures) refl

pub returns-in-Ok-accept : goal.returns-in-Ok-accept
returns-in-Ok-accept c =
    by_outcomes _ (ap outcome_of (sym c.in-Ok.is) ∙ c.read_head.ensures)
    (ap outcome_of (sym c.in-Ok-accept.is) ∙ c.accept.ensures)

pub returns-in-Err-accept : goal.returns-in-Err-accept
returns-in-Err-accept c =
    by_outcomes _ (ap outcome_of (sym c.in-Ok.is) ∙ c.read_head.ensures)
    (ap outcome_of (sym c.in-Err-accept.is) ∙ c.accept.ensures)
