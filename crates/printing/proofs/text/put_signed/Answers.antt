-- std's text of a signed number is the table's.
use Rattle.std.proofs.Common.{◌∙◌, ap}
use Rattle.printing.specs.Placing.{text_placed, after_text}
use Rattle.printing.proofs.Signed.{signed_std}
use Rattle.printing.proofs.text.put_signed.Goals as goal

pub returns : goal.returns
returns c =
    let a = c.args in
    let text = c.as_bytes.ensures.value ∙ c.format.ensures.text ∙ signed_std a.v c.ranges.v.sfits in
    record {
      value = c.put.ensures.value ∙ ap (after_text a.out.now a.at) text;
      out_after = c.put.ensures.out_after ∙ ap (text_placed a.out.now a.at) text;
    }
