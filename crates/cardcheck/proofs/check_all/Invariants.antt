-- No count outgrows the arguments' number.
use Rattle.std.proofs.Common.{◌≤◌}
use Rattle.cardcheck.proofs.check_all.Given as goal

abbrev pub invariant-loop-i : goal.invariant-loop-i
invariant-loop-i g l = record {
  accepted : l.accepted ≤ l.i;
  refused : l.refused ≤ l.i;
  unreadable : l.unreadable ≤ l.i;
}
