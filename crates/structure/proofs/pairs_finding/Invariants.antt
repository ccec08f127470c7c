-- `structure::pairs_finding` meets its contract.
use Prim.Native.Nat.{◌-◌, ◌/◌, ◌≤◌}
use mathlib.Core.Path.{◌≡◌}
use lib.ListN.{length, drop}
use Rattle.bodies.specs.Voice.{pairs}
use Rattle.structure.specs.Findings.{first_at, pairs_tests, pairs_finding}
use Rattle.structure.proofs.pairs_finding.Given as goal

abbrev pub invariant-loop-i : goal.invariant-loop-i
invariant-loop-i l = (l.i ≤ length l.voice / 2) × (first_at l.i (pairs_tests (drop l.i (pairs l.voice))) ≡ pairs_finding (pairs l.voice))

abbrev pub decreases-loop-i : goal.decreases-loop-i
decreases-loop-i l = length l.voice / 2 - l.i
