-- `clock::notes::thirty_seconds` meets its contract: a test over the codes.
use Prim.Native.Nat.{◌/◌, ◌^◌}
use mathlib.Core.Bool.{not, ◌||◌}
use borrow.Author.Tests.{lt-ltb}
use lib.Dec.{eqb, ltb, eqb→eq}
use Rattle.logic.specs.Every.{every_at, implied}
use Rattle.clock.specs.Shares.{thirty_seconds}
use Rattle.clock.proofs.notes.thirty_seconds.Goals as goal

pub returns : goal.returns
returns c =
    let k = c.args.code in
    eqb→eq (128 / 2 ^ k) (thirty_seconds k)
    (implied (ltb 1 k) (eqb (128 / 2 ^ k) (thirty_seconds k)) (every_at (λ n. not (ltb 1 n) || eqb (128 / 2 ^ n) (thirty_seconds n)) 8 tt k c.requires.1) (lt-ltb 1 k c.requires.0))
