-- `mus::voices::accept_voices` meets its contract.
use Rattle.std.proofs.Common.{sym, ap, ◌∙◌}
use Rattle.std.proofs.lemmas.Result.{err_from_is_err_and}
use Rattle.refusals.specs.Numbers.Outcome.{accepted}
use Rattle.mus.proofs.Outcomes.{first-refused, second-refused, third-refused, all_sound}
use Rattle.mus.proofs.voices.accept_voices.Goals as goal

pub accept_span-requires : goal.accept_span-requires
accept_span-requires c = (c.requires.short, c.requires.voice1)

pub accept_span-requires-2 : goal.accept_span-requires-2
accept_span-requires-2 c = (c.requires.short, c.requires.voice2)

pub accept_span-requires-3 : goal.accept_span-requires-3
accept_span-requires-3 c = (c.requires.short, c.requires.voice3)

pub returns-in_err-v1 : goal.returns-in_err-v1
returns-in_err-v1 c =
    let r = err_from_is_err_and c.from_residual.result c.from_residual.ensures.1 in
    rw (r.1, r.2) (sym (first-refused c.args.file.now c.args.l _ _ (sym c.in_err-v1.ensures)))

pub returns-in_err-v2 : goal.returns-in_err-v2
returns-in_err-v2 c =
    let r = err_from_is_err_and c.from_residual-in_err-v2.result c.from_residual-in_err-v2.ensures.1 in
    rw (r.1, r.2) (sym (second-refused c.args.file.now c.args.l _ _ _ (sym c.in_ok-v1.ensures) (sym c.in_err-v2.ensures)))

pub returns-in_err-v3 : goal.returns-in_err-v3
returns-in_err-v3 c =
    let r = err_from_is_err_and c.from_residual-in_err-v3.result c.from_residual-in_err-v3.ensures.1 in
    rw (r.1, r.2) (sym (third-refused c.args.file.now c.args.l _ _ _ _ (sym c.in_ok-v1.ensures) (sym c.in_ok-v2.ensures) (sym c.in_err-v3.ensures)))

pub returns : goal.returns
returns c = ap accepted c.song_of.ensures ∙ sym (all_sound c.args.file.now c.args.l _ _ _ (sym c.in_ok-v1.ensures) (sym c.in_ok-v2.ensures) (sym c.in_ok-v3.ensures))
