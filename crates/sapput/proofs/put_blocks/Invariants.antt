-- `put_blocks` meets its contract. The invariant: the blocks that are left, put into memory as it is, make
-- memory as it will be. Assumes nothing.
use Prim.Native.Nat.{◌-◌}
use lib.ListN.{length}
use Rattle.sapput.proofs.Progress.{Putting}
use Rattle.sapput.proofs.put_blocks.Given as goal

abbrev pub invariant-loop-found : goal.invariant-loop-found
invariant-loop-found l = Putting l.file l.at l.initial.memory l.place l.memory

abbrev pub decreases-loop-found : goal.decreases-loop-found
decreases-loop-found l = length l.file - l.place
