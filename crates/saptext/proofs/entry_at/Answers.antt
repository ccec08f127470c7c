-- `entry_at` meets its contract: the line lies in the file. Assumes nothing.
use Rattle.std.proofs.Common.{arith, sym, ◌∙◌}
use Rattle.saptext.proofs.Standing.{line-inside}
use Rattle.saptext.proofs.entry_at.Goals as goal

pub overflow_add-end : goal.overflow_add-end
overflow_add-end c = omega (arith, (line-inside c.args.file.now _ c.args.at _ c.after.ensures (sym c.line_at.ensures ∙ c.in_ok-line.was) c.requires).1)

pub overflow_add-result-3 : goal.overflow_add-result-3
overflow_add-result-3 c = omega (arith, (line-inside c.args.file.now _ c.args.at _ c.after.ensures (sym c.line_at.ensures ∙ c.in_ok-line.was) c.requires).1)
