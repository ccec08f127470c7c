-- `block_at` meets its contract: each way is a law of `Standing`. Assumes nothing.
use native.Mathlib.Omega.{arith}
use Rattle.sapblocks.proofs.Standing.{found-marker, marker-inside, found-bad, found-cut, found-whole, start_first, block_inside}
use Rattle.sapblocks.proofs.block_at.Goals as goal

pub overflow_add-result : goal.overflow_add-result
overflow_add-result c =
    omega (arith, marker-inside c.args.file.now c.args.at _ c.is_marker.ensures c.if-is_marker.true)

pub returns-then-is_marker : goal.returns-then-is_marker
returns-then-is_marker c = found-marker _ _ _ c.is_marker.ensures c.if-is_marker.true

pub returns-then-s-end : goal.returns-then-s-end
returns-then-s-end c =
    found-bad _ _ _ c.is_marker.ensures _ _ _ c.bytes_from-s.ensures c.le16-start.ensures c.le16-end.ensures c.if-is_marker.false c.if-s-end.true

pub overflow_sub-size : goal.overflow_sub-size
overflow_sub-size c =
    start_first c.args.file.now c.args.at _ c.is_marker.ensures _ _ _ c.bytes_from-s.ensures c.le16-start.ensures c.le16-end.ensures c.if-s-end.false

pub returns-then-s-size : goal.returns-then-s-size
returns-then-s-size c =
    found-cut _ _ _ c.is_marker.ensures _ _ _ c.bytes_from-s.ensures c.le16-start.ensures c.le16-end.ensures c.if-s-end.false c.if-is_marker.false c.if-s-size.true

pub overflow_add-from : goal.overflow_add-from
overflow_add-from c =
    omega (arith, block_inside c.args.file.now c.args.at _ c.is_marker.ensures _ _ _ c.bytes_from-s.ensures c.le16-start.ensures c.le16-end.ensures c.if-s-end.false c.if-s-size.false)

pub overflow_add-result-2 : goal.overflow_add-result-2
overflow_add-result-2 c =
    omega (arith, block_inside c.args.file.now c.args.at _ c.is_marker.ensures _ _ _ c.bytes_from-s.ensures c.le16-start.ensures c.le16-end.ensures c.if-s-end.false c.if-s-size.false)

pub returns : goal.returns
returns c =
    found-whole _ _ _ c.is_marker.ensures _ _ _ c.bytes_from-s.ensures c.le16-start.ensures c.le16-end.ensures c.if-s-end.false c.if-s-size.false c.if-is_marker.false
