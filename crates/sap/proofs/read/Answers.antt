-- `read` meets its contract: the outcome of the tests, without the time and the block. Assumes nothing.
use Rattle.std.proofs.lemmas.Result.{err_from_is_err_and}
use Rattle.sap.specs.Laws.{read-tested}
use Rattle.sap.proofs.read.Goals as goal

pub returns-in_err-tested : goal.returns-in_err-tested
returns-in_err-tested c =
    let p = err_from_is_err_and c.from_residual.result c.from_residual.ensures.1 in
    rw (p.1, p.2) (read-tested c.args.file.now 0 0 _ c.in_err-tested.ensures)

pub returns : goal.returns
returns c = read-tested c.args.file.now 0 0 _ c.in_ok-tested.ensures
