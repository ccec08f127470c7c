use Rattle.std.proofs.Common.{sym}
use Rattle.answers.specs.Filling.{refusal_filled, value-filled, refusal_fits}
use Rattle.muscalls.specs.Lists.{song_numbers}
use Rattle.muscalls.proofs.Places.{mus_low}
use Rattle.muscalls.proofs.Accepted.{narrow_song}
use Rattle.muscalls.proofs.accept.Goals as goal

pub refused-requires : goal.refused-requires
refused-requires c = refusal_fits c.in-Err.ensures (mus_low _)

pub song_numbers-numbers-requires : goal.song_numbers-numbers-requires
song_numbers-numbers-requires c = narrow_song _ _ (sym c.in-Ok.ensures)

pub returns-in-Err : goal.returns-in-Err
returns-in-Err c =
    let done = refusal_filled song_numbers c.args.out.now (rw c.number.ensures at c.refused.ensures) c.in-Err.ensures in
    record { answer = done.0; cells = done.1 }

pub returns-in-Ok : goal.returns-in-Ok
returns-in-Ok c =
    let done = value-filled song_numbers c.args.out.now c.fill.ensures c.song_numbers-numbers.ensures c.in-Ok.ensures in
    record { answer = done.0; cells = done.1 }
