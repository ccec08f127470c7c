-- std's digits are the table's.
use Rattle.std.proofs.Common.{◌≡◌, ◌∙◌, sym, arith}
use Rattle.printing.specs.Digits.{decimal}
use Rattle.printing.proofs.Decimal.{decimal_std}
use Rattle.printing.proofs.output.write_number.Goals as goal

pub returns : goal.returns
returns g c =
    let text : c.as_bytes.result.now ≡ decimal c.args.n =
    c.as_bytes.ensures.value ∙ c.format.ensures.text ∙ sym (decimal_std c.args.n (omega arith)) in
    record {
      value = rw text at c.write.ensures.value;
      written = rw text at c.write.ensures.written;
      failed = rw text at c.write.ensures.failed;
    }
