use Rattle.std.proofs.Common.{ap, ◌∙◌}
use Rattle.events.specs.Listing.{Listing}
use Rattle.answers.specs.Answers.{packed}
use Rattle.answers.specs.Filling.{refusal_fits}
use Rattle.muscalls.proofs.Places.{list_low}
use Rattle.muscalls.proofs.list.Goals as goal

pub refused-requires : goal.refused-requires
refused-requires c = refusal_fits (ap (λ (l : Listing). l.answer) c.in-Err.ensures) (list_low _ _ _ _ _)

pub returns-in-Err : goal.returns-in-Err
returns-in-Err c =
    let e = c.in-Err.ensures in
    record {
      answer = rw c.number.ensures at c.refused.ensures ∙ ap (λ (l : Listing). packed (λ count. count) l.answer) e;
      places = ap (λ (l : Listing). l.offsets) e;
      times = ap (λ (l : Listing). l.jiffies) e;
    }

pub returns-in-Ok : goal.returns-in-Ok
returns-in-Ok c =
    let e = c.in-Ok.ensures in
    record {
      answer = ap (λ (l : Listing). packed (λ count. count) l.answer) e;
      places = ap (λ (l : Listing). l.offsets) e;
      times = ap (λ (l : Listing). l.jiffies) e;
    }
