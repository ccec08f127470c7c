-- `digits_of` meets its contract: what is counted and read, and what is still to be counted and read, make
-- the whole. Assumes nothing.
use Rattle.std.proofs.Common.{◌≡◌}
use Rattle.characters.proofs.Values.{Read}
use Rattle.characters.proofs.digits_of.Given as goal

abbrev pub invariant-loop-b : goal.invariant-loop-b
invariant-loop-b l = (l.digits.len ≡ l.b-index) × Read l.base l.bytes l.digits.value l.b-index
