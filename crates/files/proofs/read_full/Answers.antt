-- The bytes that the reader gave lie in the list, after those that lay there.
use Rattle.std.proofs.Common.{◌≡◌, ◌+◌, ◌≤◌, ◌∙◌, length, min, take, drop, arith, length-take, length-take-le}
use Rattle.std.proofs.lemmas.List.{take-append-le}
use Rattle.files.proofs.Filling.{fill_next, took_next}
use Rattle.files.proofs.read_full.Goals as goal

pub loop-done-preserved : goal.loop-done-preserved
loop-done-preserved g c =
    let l = c.loop-done in
    let n = c.in_ok-n.n in
    let read = c.read.new.buf in
    let p = c.part.result.now in
    let given : n ≤ length read = c.in_ok-n.ensures.bound.0 in
    let rest = drop c.min-room.result l.chunk in
    let same : p ≡ take n read = c.part.ensures ∙ take-append-le n read rest given in
    let all : length p ≡ n = rw same (length-take-le n read given) in
    let lent : length read ≡ min c.min-room.result (length l.chunk) =
    c.read.auto.buf ∙ length-take c.min-room.result l.chunk in
    let room : l.done + n ≤ length l.out = omega arith in
    record {
      filled = fill_next _ _ p l.done n room all c.copy_to.ensures _ l.invariant.filled;
      taken =
          took_next _ _ p l.done n room all c.copy_to.ensures _ _ _ l.invariant.taken
          (rw same c.in_ok-n.ensures.bytes.0);
    }
