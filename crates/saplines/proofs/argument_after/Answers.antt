-- `argument_after` meets its contract: the sum fits. Assumes nothing.
use Rattle.std.proofs.Common.{arith, sym, ◌∙◌}
use Rattle.saplines.specs.Laws.{value-within}
use Rattle.saplines.proofs.argument_after.Goals as goal

pub overflow_add-result : goal.overflow_add-result
overflow_add-result c = omega (arith, value-within c.args.tag c.after.result.now _ _ (sym c.value_at.ensures ∙ c.in_ok-argument.was))
