-- `read_container` meets its contract: the head's refusal, or the outcome of the tests of the text.
use Rattle.std.proofs.Common.{sym, ◌∙◌, arith}
use Rattle.std.proofs.lemmas.Result.{err_from_is_err_and}
use Rattle.container.specs.Laws.{head_first}
use Rattle.container.proofs.Outcomes.{end-within, text_failed, text-passed}
use Rattle.container.proofs.read_container.Goals as goal

pub returns-in_err-v : goal.returns-in_err-v
returns-in_err-v c =
    let r = err_from_is_err_and c.from_residual.result c.from_residual.ensures.1 in
    rw (r.1, r.2) (sym (head_first _ _ _ (sym (c.in_err-v.ensures))))

pub read_text-t-requires : goal.read_text-t-requires
read_text-t-requires c = omega (arith, end-within _ _ (sym (c.in_ok-v.ensures)))

pub returns-in_err-test_text : goal.returns-in_err-test_text
returns-in_err-test_text c =
    let r = err_from_is_err_and c.from_residual-in_err-test_text.result c.from_residual-in_err-test_text.ensures.1 in
    rw (r.1, r.2)
    (text_failed _ _ (sym (c.in_ok-v.ensures)) _ c.read_text-t.ensures _ (sym c.test_text.ensures ∙ c.in_err-test_text.was))

pub returns : goal.returns
returns c =
    text-passed _ _ (sym (c.in_ok-v.ensures)) _ c.read_text-t.ensures _ c.place.ensures (sym c.test_text.ensures ∙ c.in_ok-test_text.was)
