-- `sapcalls::fields` meets its contract: a refusal, or the list of the header.
use mathlib.Core.Path.{sym, ap, ◌∙◌}
use Rattle.refusals.specs.Numbers.{outcome_of}
use Rattle.answers.specs.Filling.{refusal_filled, value-filled, refusal_fits}
use Rattle.sapcalls.specs.Lists.{sap_numbers}
use Rattle.sapcalls.proofs.Places.{sap-low}
use Rattle.sapcalls.proofs.fields.Goals as goal

pub refused-requires : goal.refused-requires
refused-requires c = refusal_fits (ap outcome_of (sym c.in-Err.is) ∙ c.read.ensures) (sap-low _)

pub returns-in-Err : goal.returns-in-Err
returns-in-Err c =
    let done = refusal_filled sap_numbers c.args.out.now (rw c.number.ensures at c.refused.ensures) (ap outcome_of (sym c.in-Err.is) ∙ c.read.ensures) in
    record { answer = done.0; cells = done.1 }

pub returns-in-Ok : goal.returns-in-Ok
returns-in-Ok c =
    let done = value-filled sap_numbers c.args.out.now c.fill.ensures c.sap_numbers-list.ensures (ap outcome_of (sym c.in-Ok.is) ∙ c.read.ensures) in
    record { answer = done.0; cells = done.1 }
