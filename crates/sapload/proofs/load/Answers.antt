-- `load` meets its contract: each way is a law of `Outcomes`. Assumes nothing.
use Rattle.std.proofs.lemmas.Result.{err_from_is_err_and}
use Rattle.sapload.proofs.Outcomes.{wrong_size, load_refused, load_whole, load_done}
use Rattle.sapload.proofs.load.Goals as goal

pub returns-then-memory-ne65536 : goal.returns-then-memory-ne65536
returns-then-memory-ne65536 c =
    let wrong = wrong_size c.args.file.now c.args.memory.now c.if-memory-ne65536.true in
    record { answer = rw c.into.ensures wrong.0; cells = wrong.1 }

pub put_blocks-requires : goal.put_blocks-requires
put_blocks-requires c =
    let a = c.args in
    let right = c.if-memory-ne65536.false in
    record {
      whole = load_whole a.file.now a.memory.now right _ c.in_ok-header.ensures;
      size = right;
    }

pub returns-in_err-header : goal.returns-in_err-header
returns-in_err-header c =
    let a = c.args in
    let p = err_from_is_err_and c.from_residual.result c.from_residual.ensures.1 in
    let done = load_refused a.file.now a.memory.now c.if-memory-ne65536.false _ _ c.in_err-header.ensures in
    record { answer = rw (p.1, p.2) done.0; cells = done.1 }

pub returns : goal.returns
returns c =
    let a = c.args in
    let done = load_done a.file.now a.memory.now c.if-memory-ne65536.false _ c.in_ok-header.ensures _ c.put_blocks.ensures in
    record { answer = done.0; cells = done.1 }
