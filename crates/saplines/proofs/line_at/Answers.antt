-- `line_at` meets its contract: the sum fits. Assumes nothing.
use Rattle.std.proofs.Common.{arith, sym, ◌∙◌}
use Rattle.saptags.specs.Laws.{tag-stands, name-long}
use Rattle.saplines.specs.Laws.{argument-within}
use Rattle.saplines.proofs.line_at.Goals as goal

pub overflow_add-result : goal.overflow_add-result
overflow_add-result c =
    let s = c.args.bytes.now in
    let t = c.in_ok-tag.tag in
    omega (
      arith,
      c.name_length-name.ensures,
      name-long t s (tag-stands t s (sym c.tag_at.ensures ∙ c.in_ok-tag.was)),
      argument-within t c.after.result.now _ _ (sym c.argument_after.ensures ∙ c.in_ok-argument.was),
    )
