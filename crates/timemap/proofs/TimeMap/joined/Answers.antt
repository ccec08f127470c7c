-- `TimeMap::joined` meets its contract.
use lib.Dec.{lit<}
use Rattle.timemap.specs.Maps.{joined}
use Rattle.timemap.proofs.Bounds.{under-sized}
use Rattle.timemap.proofs.TimeMap.joined.Goals as goal

pub plus-requires : goal.plus-requires
plus-requires c =
    let pre = c.requires in
    (pre.0, rw c.under.ensures (under-sized _ _ pre.0 pre.1), lit< tt)

pub returns : goal.returns
unfolding joined
returns c = rw (c.plus.ensures, c.under.ensures)
