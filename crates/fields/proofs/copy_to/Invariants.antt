-- `copy_to` meets its contract. The invariant: the first j bytes are in place, and memory has its length.
-- Assumes nothing.
use Rattle.std.proofs.Common.{◌≡◌, ◌≤◌, length}
use Prim.Native.Nat.{◌-◌}
use lib.Seq.{paste}
use Rattle.fields.proofs.copy_to.Given as goal

abbrev pub invariant-loop-j : goal.invariant-loop-j
invariant-loop-j l = (l.j ≤ length l.src) × (l.memory ≡ paste l.initial.memory l.at l.src l.j) × (length l.memory ≡ length l.initial.memory)

abbrev pub decreases-loop-j : goal.decreases-loop-j
decreases-loop-j l = length l.src - l.j
