-- A number has one digit more than its logarithm, and 0 has one.
use Rattle.std.proofs.Common.{arith}
use Rattle.printing.specs.Digits.{decimal}
use Rattle.printing.proofs.Decimal.{length_log, length_one}
use Rattle.printing.proofs.digits.digits_of.Goals as goal

pub returns-in-Some : goal.returns-in-Some
returns-in-Some c =
    let log = c.in-Some.ensures in length_log c.in-Some.log c.args.n log.bound log.power_le log.next_power_gt

pub returns-in-None : goal.returns-in-None
unfolding decimal
returns-in-None c = length_one 19 c.args.n (omega (arith, c.in-None.ensures.none))
