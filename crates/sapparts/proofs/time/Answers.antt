-- `time` meets its contract: each way is a law of `Outcomes`. Assumes nothing.
use mathlib.Core.Path.{ap, ◌∙◌}
use Rattle.std.proofs.lemmas.Result.{err_from_is_err_and}
use Rattle.refusals.specs.Numbers.Outcome.{accepted}
use Rattle.sapparts.proofs.Outcomes.{time-refused, song_missing, time-given}
use Rattle.sapparts.proofs.time.Goals as goal

pub returns-in_err-tested : goal.returns-in_err-tested
returns-in_err-tested c =
    let p = err_from_is_err_and c.from_residual.result c.from_residual.ensures.1 in
    rw (p.1, p.2) (time-refused c.args.file.now _ 0 _ _ c.in_err-tested.ensures)

pub returns-then-tested-song : goal.returns-then-tested-song
returns-then-tested-song c = rw c.into.ensures (song_missing c.args.file.now _ 0 _ _ _ c.in_ok-tested.ensures c.if-tested-song.true)

pub returns : goal.returns
returns c = ap accepted c.duration_of.ensures ∙ time-given c.args.file.now _ 0 _ _ _ c.in_ok-tested.ensures c.if-tested-song.false
