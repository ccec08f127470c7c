-- The text and then the digits are both in one.
use Rattle.std.proofs.Common.{◌∙◌}
use Rattle.printing.specs.Digits.{decimal}
use Rattle.printing.proofs.Room.{then_after, then_placed}
use Rattle.printing.proofs.text.put_after.Goals as goal

pub returns : goal.returns
returns c =
    let a = c.args in
    let first = c.put-to.ensures in
    let second = c.put_number.ensures in
    let o = a.out.now in
    let t = a.text.now in
    record {
      value = second.value ∙ then_after o a.at t (decimal a.n) first.out_after first.value;
      out_after = second.out_after ∙ then_placed o a.at t (decimal a.n) first.out_after first.value;
    }
