-- `moves::close_repeat`: where one is taken off, there is room for one.
use native.Mathlib.Omega.{arith}
use Rattle.moves.proofs.close_repeat.Goals as goal

pub push-requires : goal.push-requires
push-requires c = omega (arith, c.in-Some-Repeat.ensures.len, c.requires.1)
