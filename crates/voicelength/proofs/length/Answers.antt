-- `voicelength::length` meets its contract: the voice's outcome, and then its end.
use mathlib.Core.Path.{sym}
use Rattle.std.proofs.lemmas.Result.{err_from_is_err_and}
use Rattle.mus.proofs.Asked.{asked_in_song}
use Rattle.voicelength.specs.Length.{length_asked}
use Rattle.voicelength.proofs.length.Goals as goal

pub end_of-requires : goal.end_of-requires
end_of-requires c = asked_in_song _ _ _ (sym c.in_ok-v.ensures)

pub returns-in_err-v : goal.returns-in_err-v
unfolding length_asked
returns-in_err-v c =
    let r = err_from_is_err_and c.from_residual.result c.from_residual.ensures.1 in
    rw (r.1, r.2, sym c.in_err-v.ensures)

pub returns : goal.returns
unfolding length_asked
returns c = rw (c.end_of.ensures, sym c.in_ok-v.ensures)
