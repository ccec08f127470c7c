-- `walk` meets its contract. The invariant: what is counted and found so far and the blocks that are left
-- make the answer, and no more blocks are counted than bytes are passed. Assumes nothing.
use Prim.Native.Nat.{◌≤◌, ◌-◌}
use lib.ListN.{length}
use Rattle.sapblocks.proofs.Walking.{Walking}
use Rattle.sapblocks.proofs.walk.Given as goal

abbrev pub invariant-loop-found : goal.invariant-loop-found
invariant-loop-found l = (l.count ≤ l.place) × Walking l.file l.at l.number l.place l.count l.wanted

abbrev pub decreases-loop-found : goal.decreases-loop-found
decreases-loop-found l = length l.file - l.place
