-- `musparts::voice_length` meets its contract.
use Rattle.std.proofs.Common.{refl}
use Rattle.answers.specs.Filling.{refusal_filled, value-filled, refusal_fits}
use Rattle.musparts.specs.Lists.{time_numbers}
use Rattle.musparts.proofs.Refusals.{length-low}
use Rattle.musparts.proofs.voice_length.Goals as goal

pub refused-requires : goal.refused-requires
refused-requires c = refusal_fits c.in-Err.ensures (length-low _ _)

pub returns-in-Err : goal.returns-in-Err
returns-in-Err c =
    let done = refusal_filled time_numbers c.args.out.now (rw c.number.ensures at c.refused.ensures) c.in-Err.ensures in
    record { answer = done.0; cells = done.1 }

pub returns-in-Ok : goal.returns-in-Ok
returns-in-Ok c =
    let done = value-filled time_numbers c.args.out.now c.fill.ensures refl c.in-Ok.ensures in
    record { answer = done.0; cells = done.1 }
