-- std's text of a signed number is the table's.
use Rattle.std.proofs.Common.{◌≡◌, ◌∙◌}
use Rattle.printing.specs.Digits.{signed_digits}
use Rattle.printing.proofs.Signed.{signed_std}
use Rattle.printing.proofs.output.write_signed.Goals as goal

pub returns : goal.returns
returns g c =
    let text : c.as_bytes.result.now ≡ signed_digits c.args.v =
    c.as_bytes.ensures.value ∙ c.format.ensures.text ∙ signed_std c.args.v c.ranges.v.sfits in
    record {
      value = rw text at c.write.ensures.value;
      written = rw text at c.write.ensures.written;
      failed = rw text at c.write.ensures.failed;
    }
