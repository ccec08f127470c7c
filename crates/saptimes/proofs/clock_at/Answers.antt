-- `clock_at` meets its contract: the numbers fit. Assumes nothing.
use native.Mathlib.Omega.{arith}
use Rattle.saptimes.proofs.Places.{digits-inside, digits-small}
use Rattle.saptimes.proofs.clock_at.Goals as goal

pub overflow_add-minutes : goal.overflow_add-minutes
overflow_add-minutes c = omega (arith, digits-inside 10 c.args.bytes.now _ c.digits_of-minutes.ensures)

pub overflow_mul-result : goal.overflow_mul-result
overflow_mul-result c = omega (arith, digits-small 10 _ _ c.digits_of-minutes.ensures)

pub overflow_add-result-then-minutes-mark-2 : goal.overflow_add-result-then-minutes-mark-2
overflow_add-result-then-minutes-mark-2 c = omega (arith, digits-small 10 _ _ c.digits_of-minutes.ensures, digits-small 10 _ _ c.digits_of-seconds.ensures)
