-- The line that is written holds what the value prints.
use Rattle.std.proofs.Common.{◌∙◌}
use Rattle.printing.proofs.Printed.{holds_printed, whole_printed, part_printed}
use Rattle.printing.proofs.Taken.{of_error}
use Rattle.printing.proofs.formatted.print.Goals as goal

pub returns-in_err-write-2-clause-failed : goal.returns-in_err-write-2-clause-failed
returns-in_err-write-2-clause-failed g c =
    let text = g.D.Display.output c.args.text in
    let start = c.new-line.result in
    let same = holds_printed start c.write.new.self text c.new-line.ensures c.in_ok-write.ensures.writes in
    let line = c.as_bytes.ensures.value ∙ c.as_str.ensures.value in
    of_error c.from_residual-in_err-write-2.result
    (part_printed _ _ _ text same (rw line at c.in_err-write-2.ensures.failed))

pub returns-clause-written : goal.returns-clause-written
returns-clause-written g c =
    let text = g.D.Display.output c.args.text in
    let start = c.new-line.result in
    let same = holds_printed start c.write.new.self text c.new-line.ensures c.in_ok-write.ensures.writes in
    let line = c.as_bytes.ensures.value ∙ c.as_str.ensures.value in
    whole_printed _ _ _ text same (rw line at c.in_ok-write-2.ensures.written)
