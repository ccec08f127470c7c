-- `line_end` meets its contract. The invariant: what is counted and what is still to be counted make the
-- line. Assumes nothing.
use Prim.Native.Nat.{◌-◌}
use lib.ListN.{length}
use Rattle.container.proofs.Lines.{Counted}
use Rattle.container.proofs.text.line_end.Given as goal

abbrev pub invariant-loop-n : goal.invariant-loop-n
invariant-loop-n l = Counted l.file l.from l.n

abbrev pub decreases-loop-n : goal.decreases-loop-n
decreases-loop-n l = length l.file - l.n
