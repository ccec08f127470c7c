-- `first_of` meets its contract: tests made one by one have the list's verdict. Assumes nothing.
use Rattle.refusals.specs.Laws.{tested-first}
use Rattle.refusals.proofs.first_of.Goals as goal

pub loop-test-init : goal.loop-test-init
loop-test-init c = tested-first c.args.tests.now
