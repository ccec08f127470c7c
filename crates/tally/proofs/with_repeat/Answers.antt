-- `tally::with_repeat` meets its contract.
use Prim.Native.Nat.{◌+◌}
use native.Mathlib.Omega.{arith}
use Rattle.tally.proofs.Sums.{product}
use Rattle.tally.proofs.with_repeat.Goals as goal

pub overflow_mul-times : goal.overflow_mul-times
overflow_mul-times c =
    let pre = c.requires in
    omega (arith, product c.args.n c.args.b.events pre.2 (omega (arith, pre.1.events)))

pub overflow_mul-times-2 : goal.overflow_mul-times-2
overflow_mul-times-2 c =
    let pre = c.requires in
    omega (arith, product c.args.n (c.args.b.walked + 1) pre.2 (omega (arith, pre.1.walked)))

pub overflow_add-times : goal.overflow_add-times
overflow_add-times c =
    let pre = c.requires in
    omega (arith, product c.args.n (c.args.b.walked + 1) pre.2 (omega (arith, pre.1.walked)))

pub with-requires : goal.with-requires
with-requires c =
    let pre = c.requires in
    let args = c.args in (
      pre.0,
      omega (arith, product args.n args.b.events pre.2 (omega (arith, pre.1.events))),
      omega (arith, product args.n (args.b.walked + 1) pre.2 (omega (arith, pre.1.walked))),
    )
