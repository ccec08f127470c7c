-- `line_at` meets its contract: the line ends within the file or where it begins. Assumes nothing.
use native.Mathlib.Nat.{add-sub_cancel_left}
use native.Mathlib.Omega.{arith}
use lib.ListN.{length}
use Rattle.container.specs.Text.{line_at, line_of}
use Rattle.container.proofs.Lines.{line-short}
use Rattle.container.proofs.text.line_at.Goals as goal

pub overflow_add-next : goal.overflow_add-next
overflow_add-next c =
    omega (arith, c.line_end-end.ensures, line-short c.args.file.now c.args.from (omega arith) c.requires)

pub returns : goal.returns
unfolding line_of
returns c =
    let a = c.args in
    rw (c.byte_at-closer.ensures, c.line_end-end.ensures, add-sub_cancel_left a.from (length (line_at a.file.now a.from)))
