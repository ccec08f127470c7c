-- `TimeMap::passes` meets its contract.
use native.Mathlib.Omega.{arith}
use Rattle.timemap.proofs.Bounds.{under-sized, passes-some}
use Rattle.timemap.proofs.TimeMap.passes.Goals as goal

pub plus-requires : goal.plus-requires
plus-requires c =
    let pre = c.requires in
    (pre.2, rw c.under.ensures (under-sized _ _ pre.2 pre.2), omega (arith, pre.1))

pub returns : goal.returns
returns c = rw (c.plus.ensures, c.under.ensures) (passes-some _ _ c.requires.0)
