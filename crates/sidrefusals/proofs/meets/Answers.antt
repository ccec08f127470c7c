-- `meets` meets its contract: two ranges have a page in common by their ends. Assumes nothing.
use Rattle.sidrefusals.proofs.Pages.{any-between}
use Rattle.sidrefusals.proofs.meets.Goals as goal

pub returns : goal.returns
returns c = let a = c.args in any-between a.start a.count a.first a.last
