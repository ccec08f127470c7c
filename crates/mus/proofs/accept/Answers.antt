-- `mus::accept` meets its contract.
use Rattle.std.proofs.Common.{sym, ◌∙◌}
use Rattle.std.proofs.lemmas.Result.{err_from_is_err_and}
use Rattle.bodies.specs.Voice.{pairs}
use Rattle.mus.specs.Laws.{container-refused}
use Rattle.mus.proofs.Outcomes.{in_file_lem, container-fits}
use Rattle.mus.proofs.accept.Goals as goal

pub accept_voices-requires : goal.accept_voices-requires
accept_voices-requires c = in_file_lem _ _ (sym c.in_ok-l.ensures)

pub returns-in_err-l : goal.returns-in_err-l
returns-in_err-l c =
    let r = err_from_is_err_and c.from_residual.result c.from_residual.ensures.1 in
    rw (r.1, r.2) (sym (container-refused pairs _ _ _ (sym c.in_err-l.ensures)))

pub returns : goal.returns
returns c = c.accept_voices.ensures ∙ sym (container-fits _ _ (sym c.in_ok-l.ensures))
