use Rattle.std.proofs.Common.{sym}
use Rattle.answers.specs.Filling.{refusal_filled, value-filled, refusal_fits}
use Rattle.musparts.specs.Lists.{place_numbers}
use Rattle.musparts.proofs.Refusals.{head-low}
use Rattle.musparts.proofs.Accepted.{voices_narrow}
use Rattle.musparts.proofs.voices.Goals as goal

pub refused-requires : goal.refused-requires
refused-requires c = refusal_fits c.in-Err.ensures (head-low _)

pub place_numbers-numbers-requires : goal.place_numbers-numbers-requires
place_numbers-numbers-requires c = voices_narrow _ _ (sym c.in-Ok.ensures)

pub returns-in-Err : goal.returns-in-Err
returns-in-Err c =
    let done = refusal_filled place_numbers c.args.out.now (rw c.number.ensures at c.refused.ensures) c.in-Err.ensures in
    record { answer = done.0; cells = done.1 }

pub returns-in-Ok : goal.returns-in-Ok
returns-in-Ok c =
    let done = value-filled place_numbers c.args.out.now c.fill.ensures c.place_numbers-numbers.ensures c.in-Ok.ensures in
    record { answer = done.0; cells = done.1 }
