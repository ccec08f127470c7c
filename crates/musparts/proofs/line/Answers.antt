use Rattle.std.proofs.Common.{refl, sym, ap, ◌∙◌}
use Rattle.refusals.specs.Numbers.Outcome.{accepted}
use Rattle.answers.specs.Filling.{front_none, refusal_filled, value-filled, refusal_fits}
use Rattle.musparts.specs.Lists.{line_numbers}
use Rattle.musparts.proofs.Refusals.{line_low}
use Rattle.musparts.proofs.Accepted.{line_narrow}
use Rattle.musparts.proofs.line.Goals as goal

pub refused-requires : goal.refused-requires
refused-requires c = refusal_fits c.in-Err.ensures (line_low _ _)

pub line_numbers-numbers-requires : goal.line_numbers-numbers-requires
line_numbers-numbers-requires c = line_narrow _ _ _ (sym (ap accepted (sym c.in-Some.is) ∙ c.in-Ok.ensures))

pub returns-in-Err : goal.returns-in-Err
returns-in-Err c =
    let done = refusal_filled line_numbers c.args.out.now (rw c.number.ensures at c.refused.ensures) c.in-Err.ensures in
    record { answer = done.0; cells = done.1 }

pub returns-in-None : goal.returns-in-None
returns-in-None c =
    let out = c.args.out.now in
    let done = value-filled line_numbers out (front_none out) refl (ap accepted (sym c.in-None.is) ∙ c.in-Ok.ensures) in
    record { answer = done.0; cells = done.1 }

pub returns-in-Some : goal.returns-in-Some
returns-in-Some c =
    let done = value-filled line_numbers c.args.out.now c.fill.ensures c.line_numbers-numbers.ensures (ap accepted (sym c.in-Some.is) ∙ c.in-Ok.ensures) in
    record { answer = done.0; cells = done.1 }
