use mathlib.Core.Path.{sym, ◌∙◌}
use native.Mathlib.Omega.{arith}
use Rattle.sapblocks.specs.Laws.{found-known, found-there}
use Rattle.sapblocks.proofs.Walking.{wanted_this, wanted_other, walking_start, walking-bad, walking-marker, walking-block, walking-ended}
use Rattle.sapblocks.proofs.walk.Goals as goal
use Rattle.sapblocks.proofs.walk.Goals.{then-count-number, else-count-number}

pub loop-found-init : goal.loop-found-init
loop-found-init c = let a = c.args in (omega arith, walking_start a.file.now a.at a.number)

pub returns-in_err-found : goal.returns-in_err-found
returns-in_err-found c = c.from_residual.ensures ∙ walking-bad _ _ _ _ _ _ c.loop-found.invariant.1 (sym c.in_err-found.was ∙ c.block_at.ensures)

pub loop-found-smaller-in-Marker : goal.loop-found-smaller-in-Marker
loop-found-smaller-in-Marker c =
    let f = c.args.file.now in
    let e = rw c.in-Marker.is at (sym c.in_ok-found.was ∙ c.block_at.ensures) in
    omega (arith, found-there f c.loop-found.place _ e, found-known f c.loop-found.place _ e)

pub loop-found-preserved-in-Marker : goal.loop-found-preserved-in-Marker
loop-found-preserved-in-Marker c =
    let f = c.args.file.now in
    let e = rw c.in-Marker.is at (sym c.in_ok-found.was ∙ c.block_at.ensures) in
    (omega (arith, found-known f c.loop-found.place _ e), walking-marker _ _ _ _ _ _ c.loop-found.invariant.1 _ e)

pub overflow_add-count : goal.overflow_add-count
overflow_add-count c =
    omega (arith, c.loop-found.invariant.0, found-there c.args.file.now c.loop-found.place _ (sym c.in_ok-found.was ∙ c.block_at.ensures))

pub returns-then-next-file : goal.returns-then-next-file
returns-then-next-file c =
    let e = rw c.in-Whole.is at (sym c.in_ok-found.was ∙ c.block_at.ensures) in
    walking-ended _ _ _ _ _ _ c.loop-found.invariant.1 _ _ _ e
    (elim c.if-count-number.branch [ then-count-number w ↦ wanted_this _ _ _ _ _ w.if-count-number.true w.wanted-is | else-count-number w ↦ wanted_other _ _ _ _ _ w.if-count-number.false w.wanted-is ])
    c.if-next-file.true

pub loop-found-smaller : goal.loop-found-smaller
loop-found-smaller c =
    let f = c.args.file.now in
    let e = rw c.in-Whole.is at (sym c.in_ok-found.was ∙ c.block_at.ensures) in
    omega (arith, found-there f c.loop-found.place _ e, (found-known f c.loop-found.place _ e).2)

pub loop-found-preserved : goal.loop-found-preserved
loop-found-preserved c =
    let f = c.args.file.now in
    let e = rw c.in-Whole.is at (sym c.in_ok-found.was ∙ c.block_at.ensures) in (
      omega (arith, (found-known f c.loop-found.place _ e).2),
      walking-block _ _ _ _ _ _ c.loop-found.invariant.1 _ _ _ e
          (elim c.if-count-number.branch [ then-count-number w ↦ wanted_this _ _ _ _ _ w.if-count-number.true w.wanted-is | else-count-number w ↦ wanted_other _ _ _ _ _ w.if-count-number.false w.wanted-is ])
          (omega (arith, c.if-next-file.false)),
    )
