-- A full list stays as it is, and digits that all have room are put whole.
use Rattle.std.proofs.Common.{◌≡◌, ◌+◌, ◌∙◌, ap, sym, arith, length, List, ℕ}
use Rattle.std.specs.Fmt as fmt
use Rattle.printing.specs.Digits.{decimal}
use Rattle.printing.specs.Placing.{fitting, text_placed, after_text}
use Rattle.printing.proofs.Decimal.{decimal_std}
use Rattle.printing.proofs.Room.{full-after, full-placed, fitting_all, put-digits}
use Rattle.printing.proofs.text.put_number.Goals as goal

pub returns-then-out-at : goal.returns-then-out-at
returns-then-out-at c =
    let a = c.args in
    let full = c.if-out-at.true in
    record {
      value = full-after a.out.now a.at (decimal a.n) full;
      out_after = full-placed a.out.now a.at (decimal a.n) full;
    }

pub write_digits-requires : goal.write_digits-requires
write_digits-requires c =
    let same = ap (λ (l : List ℕ). length l) (decimal_std c.args.n (omega arith)) in
    (omega arith, omega arith)

pub returns-then-count-out : goal.returns-then-count-out
returns-then-count-out c =
    let a = c.args in
    let w = c.write_digits.ensures in
    let same = decimal_std a.n (omega arith) in
    let long = ap (λ (l : List ℕ). length l) same in
    let all : fitting a.out.now a.at (decimal a.n) ≡ decimal a.n = fitting_all a.out.now a.at (decimal a.n) (omega arith) in
    record {
      value = rw all (omega arith);
      out_after = rw (all, same) (put-digits a.out.now c.write_digits.new.buf (fmt.decimal a.n) a.at c.write_digits.result (a.at + c.digits_of-count.result) (omega arith) w.start w.before w.written);
    }

pub returns : goal.returns
returns c =
    let a = c.args in
    let text = c.as_bytes.ensures.value ∙ c.format.ensures.text ∙ sym (decimal_std a.n (omega arith)) in
    record {
      value = c.put.ensures.value ∙ ap (after_text a.out.now a.at) text;
      out_after = c.put.ensures.out_after ∙ ap (text_placed a.out.now a.at) text;
    }
