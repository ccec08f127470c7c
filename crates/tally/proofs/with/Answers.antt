-- `tally::with` meets its contract.
use Rattle.tally.specs.Sums.{join}
use Rattle.tally.proofs.Sums.{same_counts}
use Rattle.tally.proofs.with.Goals as goal

pub returns : goal.returns
unfolding join
returns c = same_counts _ _ c.capped.ensures c.capped-2.ensures c.max.ensures
