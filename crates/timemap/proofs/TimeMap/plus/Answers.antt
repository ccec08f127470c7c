-- `TimeMap::plus` meets its contract.
use native.Mathlib.Omega.{arith}
use Rattle.timemap.proofs.Bounds.{many}
use Rattle.timemap.proofs.TimeMap.plus.Goals as goal

pub added-requires : goal.added-requires
added-requires c =
    (omega (arith, c.requires.0.sized.fixed), many c.args.n c.args.other.fixed c.requires.2 (omega (arith, c.requires.1.fixed)))

pub added-requires-2 : goal.added-requires-2
added-requires-2 c = (
  omega (arith, c.requires.0.sized.tempos),
  many c.args.n c.args.other.tempos c.requires.2
      (omega (arith, c.requires.1.tempos)),
)

pub added-requires-3 : goal.added-requires-3
added-requires-3 c =
    (omega (arith, c.requires.0.sized.utls), many c.args.n c.args.other.utls c.requires.2 (omega (arith, c.requires.1.utls)))

pub added-requires-4 : goal.added-requires-4
added-requires-4 c =
    (omega (arith, c.requires.0.sized.utvs), many c.args.n c.args.other.utvs c.requires.2 (omega (arith, c.requires.1.utvs)))

pub returns : goal.returns
returns c =
    rw (c.added.ensures, c.added-2.ensures, c.added-3.ensures, c.added-4.ensures)
