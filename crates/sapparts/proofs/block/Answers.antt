-- `block` meets its contract: each way is a law of `Outcomes`. Assumes nothing.
use Rattle.std.proofs.lemmas.Result.{err_from_is_err_and}
use Rattle.sapparts.proofs.Outcomes.{block_refused, block-given}
use Rattle.sapparts.proofs.block.Goals as goal

pub returns-in_err-tested : goal.returns-in_err-tested
returns-in_err-tested c =
    let p = err_from_is_err_and c.from_residual.result c.from_residual.ensures.1 in
    rw (p.1, p.2) (block_refused c.args.file.now 0 _ _ _ c.in_err-tested.ensures)

pub returns : goal.returns
returns c = block-given c.args.file.now 0 _ _ _ _ c.in_ok-tested.ensures
