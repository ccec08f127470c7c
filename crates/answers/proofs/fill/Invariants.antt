-- `answers::fill` meets its contract. The invariant: the first i values stand in the first i cells, and the others
-- are as they were.
use Rattle.std.proofs.Common.{◌≡◌, length, take, drop}
use Rattle.answers.proofs.fill.Given as goal

abbrev pub invariant-loop-i : goal.invariant-loop-i
invariant-loop-i g l = (take l.i l.out ≡ take l.i l.values) × (drop l.i l.out ≡ drop l.i l.initial.out) × (length l.out ≡ length l.initial.out)
