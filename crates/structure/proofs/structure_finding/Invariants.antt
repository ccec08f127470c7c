-- `structure::structure_finding` meets its contract.
use Prim.Native.Nat.{◌-◌, ◌/◌, ◌≤◌}
use lib.ListN.{length}
use Rattle.structure.proofs.Passes.{Seen}
use Rattle.structure.proofs.structure_finding.Given as goal

abbrev pub invariant-loop-i : goal.invariant-loop-i
invariant-loop-i l = (l.i ≤ length l.voice / 2) × Seen l.voice l.closed l.o l.i

abbrev pub decreases-loop-i : goal.decreases-loop-i
decreases-loop-i l = length l.voice / 2 - l.i
