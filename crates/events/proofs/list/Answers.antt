-- `events::list` meets its contract: the caller's tests, then the voice, then the window.
use mathlib.Core.Path.{sym, ◌∙◌}
use Rattle.std.proofs.lemmas.Result.{err_from_is_err_and}
use Rattle.mus.proofs.Asked.{asked_in_song}
use Rattle.events.proofs.Answers.{voice-refused, lengths-refused, voice-answered}
use Rattle.events.proofs.list.Goals as goal

pub returns-then-voice : goal.returns-then-voice
returns-then-voice c = rw c.into.ensures (voice-refused _ _ _ _ _ c.if-voice.true)

pub returns-then-offsets-jiffies : goal.returns-then-offsets-jiffies
returns-then-offsets-jiffies c = rw c.into-then-offsets-jiffies.ensures (lengths-refused _ _ _ _ _ c.if-voice.false c.if-offsets-jiffies.true)

pub list_part-requires : goal.list_part-requires
list_part-requires c = (asked_in_song _ _ _ (sym c.in_ok-v.ensures), c.if-offsets-jiffies.false)

pub returns-in_err-v : goal.returns-in_err-v
returns-in_err-v c =
    let r = err_from_is_err_and c.from_residual.result c.from_residual.ensures.1 in
    rw (r.1, r.2) (voice-answered _ _ _ _ _ c.if-voice.false c.if-offsets-jiffies.false _ c.in_err-v.ensures)

pub returns : goal.returns
returns c = c.list_part.ensures ∙ voice-answered _ _ _ _ _ c.if-voice.false c.if-offsets-jiffies.false _ c.in_ok-v.ensures
