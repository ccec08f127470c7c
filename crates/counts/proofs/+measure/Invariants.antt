-- `counts::measure` meets its contract: the recursive reading of nested bodies. At each call fewer pairs
-- remain; at each repeat the allowance falls.
use Prim.Native.Nat.{◌+◌, ◌-◌, ◌/◌}
use lib.ListN.{length}
use Rattle.counts.proofs.Readings.{Sum}
use Rattle.counts.proofs.+measure.Given as goal

abbrev pub invariant-loop-at : goal.invariant-loop-at
invariant-loop-at l = Sum l.voice l.initial.cells l.allowance l.from l.sum l.at l.cells

abbrev pub decreases-loop-at : goal.decreases-loop-at
decreases-loop-at l = length l.voice / 2 + 1 - l.at

-- the pairs that remain
abbrev pub decreases-measure : goal.decreases-measure
decreases-measure l = length l.voice.now / 2 - l.from
