use mathlib.Core.Path.{sym, ◌∙◌}
use native.Mathlib.Omega.{arith}
use lib.ListN.{length-take}
use Rattle.sapblocks.specs.Laws.{found-known, found-there, found-good}
use Rattle.sapput.proofs.Progress.{putting_start, putting_marker, putting_block, putting_ended}
use Rattle.sapput.proofs.put_blocks.Goals as goal

pub loop-found-init : goal.loop-found-init
loop-found-init c =
    putting_start c.args.file.now c.args.at c.args.memory.now c.requires.whole c.requires.size

pub loop-found-smaller-in-Marker : goal.loop-found-smaller-in-Marker
loop-found-smaller-in-Marker c =
    let f = c.args.file.now in
    let e = rw c.in-Marker.is at (sym c.in-Some.is ∙ c.block_at.ensures) in
    omega (arith, found-there f c.loop-found.place _ e, found-known f c.loop-found.place _ e)

pub loop-found-preserved-in-Marker : goal.loop-found-preserved-in-Marker
loop-found-preserved-in-Marker c =
    putting_marker _ _ _ _ _ c.loop-found.invariant _ (rw c.in-Marker.is at (sym c.in-Some.is ∙ c.block_at.ensures))

pub overflow_sub-len : goal.overflow_sub-len
overflow_sub-len c =
    (found-good c.args.file.now (λ i. omega (arith, c.type_inv.file i)) c.loop-found.place _ _ (rw c.in-Whole.is at (sym c.in-Some.is ∙ c.block_at.ensures))).ordered

pub copy_to-requires : goal.copy_to-requires
copy_to-requires c =
    let f = c.args.file.now in
    let good = found-good f (λ i. omega (arith, c.type_inv.file i)) c.loop-found.place _ _ (rw c.in-Whole.is at (sym c.in-Some.is ∙ c.block_at.ensures)) in
    rw c.part.ensures (simp length-take (omega (arith, good.ordered, good.in_memory, c.loop-found.invariant.1)))

pub loop-found-smaller : goal.loop-found-smaller
loop-found-smaller c =
    let f = c.args.file.now in
    let e = rw c.in-Whole.is at (sym c.in-Some.is ∙ c.block_at.ensures) in
    omega (arith, found-there f c.loop-found.place _ e, (found-known f c.loop-found.place _ e).2)

pub loop-found-preserved : goal.loop-found-preserved
loop-found-preserved c =
    putting_block _ _ _ _ _ c.loop-found.invariant _ _ _ (λ i. omega (arith, c.type_inv.file i)) (rw c.in-Whole.is at (sym c.in-Some.is ∙ c.block_at.ensures)) (rw (← c.part.ensures) c.copy_to.ensures)

pub returns : goal.returns
returns c = putting_ended _ _ _ _ _ c.loop-found.invariant (sym c.in_default.is ∙ c.block_at.ensures)
