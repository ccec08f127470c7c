-- `put_payload` meets its contract: each way is a law of `Outcomes`. Assumes nothing.
use Rattle.std.proofs.lemmas.Result.{err_from_is_err_and}
use Rattle.sidload.proofs.Outcomes.{wrong_size, put_refused, put_fits, put_done}
use Rattle.sidload.proofs.put_payload.Goals as goal

pub returns-then-memory-ne65536 : goal.returns-then-memory-ne65536
returns-then-memory-ne65536 c =
    let w = wrong_size c.args.file.now c.args.memory.now c.if-memory-ne65536.true in
    record { answer = rw c.into.ensures w.0; cells = w.1 }

pub returns-in_err-parts : goal.returns-in_err-parts
returns-in_err-parts c =
    let p = err_from_is_err_and c.from_residual.result c.from_residual.ensures.1 in
    let w = put_refused c.args.file.now c.args.memory.now c.if-memory-ne65536.false _ _ c.in_err-parts.ensures in
    record { answer = rw (p.1, p.2) w.0; cells = w.1 }

pub copy_to-requires : goal.copy_to-requires
copy_to-requires c =
    rw c.part.ensures (put_fits c.args.file.now c.args.memory.now c.if-memory-ne65536.false c.in_ok-parts.parts c.in_ok-parts.ensures)

pub returns : goal.returns
returns c =
    let w = put_done c.args.file.now c.args.memory.now c.if-memory-ne65536.false c.in_ok-parts.parts c.in_ok-parts.ensures _ (rw (← c.part.ensures) c.copy_to.ensures) in
    record { answer = w.0; cells = w.1 }
