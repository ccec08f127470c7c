-- `fraction_at` meets its contract: the product fits. Assumes nothing.
use native.Mathlib.Omega.{arith}
use Rattle.saptimes.proofs.Places.{product-fits}
use Rattle.saptimes.proofs.fraction_at.Goals as goal

pub overflow_mul-result : goal.overflow_mul-result
overflow_mul-result c = omega (arith, product-fits 10 _ _ _ c.digits_of-digits.ensures c.unit_of.ensures)
