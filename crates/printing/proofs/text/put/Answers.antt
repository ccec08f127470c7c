-- A full list stays as it is, and of a text is put what the room takes.
use Rattle.std.proofs.Common.{ℕ, ◌+◌, List, length, ap, ◌∙◌}
use Rattle.fields.specs.Parts as parts
use Rattle.printing.specs.Placing.{fitting}
use Rattle.printing.proofs.Room.{full-after, full-placed}
use Rattle.printing.proofs.text.put.Goals as goal

pub returns-then-out-at : goal.returns-then-out-at
returns-then-out-at c =
    let a = c.args in
    let full = c.if-out-at.true in
    record {
      value = full-after a.out.now a.at a.text.now full;
      out_after = full-placed a.out.now a.at a.text.now full;
    }

pub returns : goal.returns
unfolding fitting
returns c =
    let a = c.args in
    let cut = c.part-fits.ensures in
    record {
      value = ap (λ (l : List ℕ). a.at + length l) cut;
      out_after = c.copy_to.ensures ∙ ap (parts.put a.out.now a.at) cut;
    }
