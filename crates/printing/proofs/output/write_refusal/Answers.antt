-- Two numbers have at most forty digits. Where the second fails, the writer has taken the first.
use Rattle.std.proofs.Common.{arith, ◌∷◌}
use Rattle.printing.specs.Digits.{decimal}
use Rattle.printing.proofs.Decimal.{length-decimal}
use Rattle.printing.proofs.Taken.{of_error, part_after}
use Rattle.printing.proofs.output.write_refusal.Goals as goal

pub overflow_add-result : goal.overflow_add-result
overflow_add-result g c = omega (arith, c.in_ok-first.ensures.value, length-decimal c.args.number)

pub overflow_add-result-2 : goal.overflow_add-result-2
overflow_add-result-2 g c =
    let first = c.in_ok-first.ensures.value in
    omega (arith, first, c.in_ok-write_after.ensures.value, length-decimal c.args.number, length-decimal c.args.place)

pub returns-in_err-write_after-clause-failed : goal.returns-in_err-write_after-clause-failed
returns-in_err-write_after-clause-failed g c =
    let a = c.args in
    let first = c.in_ok-first.ensures.written in
    of_error c.from_residual-in_err-write_after.result
    (part_after _ _ _ (decimal a.number) (32 ∷ decimal a.place) first c.in_err-write_after.ensures.failed)
