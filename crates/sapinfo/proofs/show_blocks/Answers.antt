-- What is found at a place begins in the file and ends after it.
use Rattle.std.proofs.Common.{sym, ◌∙◌, arith}
use Rattle.sapblocks.specs.Laws.{found-known, found-there}
use Rattle.sapinfo.proofs.show_blocks.Goals as goal

pub loop-found-smaller-in-Marker : goal.loop-found-smaller-in-Marker
loop-found-smaller-in-Marker g c =
    let e = rw c.in-Marker.is at (sym c.in-Some.is ∙ c.block_at.ensures) in
    omega (arith, found-there c.args.file.now c.loop-found.at _ e, found-known c.args.file.now c.loop-found.at _ e)

pub loop-found-smaller : goal.loop-found-smaller
loop-found-smaller g c =
    let e = rw c.in-Whole.is at (sym c.in-Some.is ∙ c.block_at.ensures) in
    omega (arith, found-there c.args.file.now c.loop-found.at _ e, (found-known c.args.file.now c.loop-found.at _ e).2)
