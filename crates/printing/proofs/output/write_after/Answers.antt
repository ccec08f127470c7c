-- Where the number fails, the writer has taken the text before it.
use Rattle.printing.specs.Digits.{decimal}
use Rattle.printing.proofs.Taken.{on_error, part_after}
use Rattle.printing.proofs.output.write_after.Goals as goal

pub returns-clause-failed : goal.returns-clause-failed
returns-clause-failed g c =
    on_error c.write_number.result
    (part_after _ _ _ c.args.text.now (decimal c.args.n) c.in_ok-write.ensures.written)
    c.write_number.ensures.failed
