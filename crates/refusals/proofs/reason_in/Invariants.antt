-- `reason_in` meets its contract: no reason that the loop has passed has the number. Assumes nothing.
use Rattle.std.proofs.Common.{◌≡◌, drop}
use Rattle.refusals.specs.Numbers.{numbered}
use Rattle.refusals.proofs.reason_in.Given as goal

abbrev pub invariant-loop-reason : goal.invariant-loop-reason
invariant-loop-reason l = numbered l.reasons l.number ≡ numbered (drop l.reason-index l.reasons) l.number
