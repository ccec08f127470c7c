-- `read_head` meets its contract: each way through its tests is a law of `Outcomes`. Assumes nothing.
use Rattle.std.proofs.Common.{sym, ◌∙◌}
use Rattle.std.proofs.lemmas.Result.{err_from_is_err_and}
use Rattle.container.proofs.Outcomes.{numbers_failed, numbers-passed}
use Rattle.container.proofs.read_head.Goals as goal

pub returns-in_err-test_head : goal.returns-in_err-test_head
returns-in_err-test_head c =
    let r = err_from_is_err_and c.from_residual.result c.from_residual.ensures.1 in
    rw (r.1, r.2) (numbers_failed _ _ c.read_numbers-x.ensures _ (sym c.test_head.ensures ∙ c.in_err-test_head.was))

pub returns : goal.returns
returns c =
    numbers-passed _ _ c.read_numbers-x.ensures _ c.voices_of.ensures (sym c.test_head.ensures ∙ c.in_ok-test_head.was)
