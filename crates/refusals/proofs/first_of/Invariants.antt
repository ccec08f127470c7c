-- `first_of` meets its contract: the verdict so far, with the tests to come made one by one, is that of the
-- list. Assumes nothing.
use Rattle.std.proofs.Common.{◌≡◌, drop}
use Rattle.refusals.specs.Tests.{first_of}
use Rattle.refusals.specs.Laws.{tested_all}
use Rattle.refusals.proofs.first_of.Given as goal

abbrev pub invariant-loop-test : goal.invariant-loop-test
invariant-loop-test l = tested_all l.verdict (drop l.test-index l.tests) ≡ first_of l.tests
