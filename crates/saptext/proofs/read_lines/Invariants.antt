-- `read_lines` meets its contract. The invariant is `Ongoing`: the cells so far, run on from the line where
-- the loop stands, give the whole. Assumes nothing.
use Prim.Native.Nat.{◌-◌}
use lib.ListN.{length}
use Rattle.saptext.proofs.Loop.{Ongoing}
use Rattle.saptext.proofs.read_lines.Given as goal

abbrev pub invariant-loop-at : goal.invariant-loop-at
invariant-loop-at l = Ongoing l.file l.song l.cells l.times l.at

abbrev pub decreases-loop-at : goal.decreases-loop-at
decreases-loop-at l = length l.file - l.at
