-- `mus::read_voice` meets its contract: 41, then the file's own refusal, then the voice.
use Rattle.std.proofs.Common.{sym, ap, ◌∙◌}
use Rattle.std.proofs.lemmas.Result.{err_from_is_err_and}
use Rattle.refusals.specs.Numbers.Outcome.{accepted}
use Rattle.mus.specs.AskedLaws.{number-first}
use Rattle.mus.proofs.Outcomes.{file-answered}
use Rattle.mus.proofs.read_voice.Goals as goal

pub returns-then-number : goal.returns-then-number
returns-then-number c = rw c.into.ensures (sym (number-first _ _ c.if-number.true))

pub returns-in_err-song : goal.returns-in_err-song
returns-in_err-song c =
    let r = err_from_is_err_and c.from_residual.result c.from_residual.ensures.1 in
    rw (r.1, r.2) (file-answered _ _ c.if-number.false _ c.in_err-song.ensures)

pub returns : goal.returns
returns c = ap accepted c.voice_of.ensures ∙ file-answered _ _ c.if-number.false _ c.in_ok-song.ensures
