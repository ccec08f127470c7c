-- `read` meets its contract: the tests, and the header made after them. Assumes nothing.
use Rattle.std.proofs.lemmas.Result.{err_from_is_err_and}
use Rattle.sid.specs.Laws.{read-headed}
use Rattle.sid.proofs.Outcomes.{too_short_lem}
use Rattle.sid.proofs.read.Goals as goal

pub returns-then-file-lt-SHORTEST : goal.returns-then-file-lt-SHORTEST
returns-then-file-lt-SHORTEST c =
    let f = c.args.file.now in
    rw c.into.ensures (read-headed f _ (too_short_lem f c.if-file-lt-SHORTEST.true))

pub returns-in_err-parts : goal.returns-in_err-parts
returns-in_err-parts c =
    let p = err_from_is_err_and c.from_residual.result c.from_residual.ensures.1 in
    rw (p.1, p.2) (read-headed c.args.file.now _ c.in_err-parts.ensures)

pub returns : goal.returns
returns c = rw c.header_of.ensures (read-headed c.args.file.now _ c.in_ok-parts.ensures)
