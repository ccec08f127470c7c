-- `read_text` meets its contract: each line begins where the one before it says. Assumes nothing.
use native.Mathlib.Omega.{arith}
use lib.Dec.{lit≤}
use Rattle.container.proofs.Starts.{start_small, start1, start2, start3, start4, start5, text-read}
use Rattle.container.proofs.text.read_text.Goals as goal

pub line_at-b-requires : goal.line_at-b-requires
line_at-b-requires c =
    start_small c.args.file.now c.args.at c.requires (omega arith) 1 _ (lit≤ tt) (start1 _ _ _ c.line_at-a.ensures)

pub line_at-c-requires : goal.line_at-c-requires
line_at-c-requires c =
    start_small c.args.file.now c.args.at c.requires (omega arith) 2 _ (lit≤ tt) (start2 _ _ _ c.line_at-a.ensures _ c.line_at-b.ensures)

pub line_at-d-requires : goal.line_at-d-requires
line_at-d-requires c =
    start_small c.args.file.now c.args.at c.requires (omega arith) 3 _ (lit≤ tt) (start3 _ _ _ c.line_at-a.ensures _ c.line_at-b.ensures _ c.line_at-c.ensures)

pub line_at-e-requires : goal.line_at-e-requires
line_at-e-requires c =
    start_small c.args.file.now c.args.at c.requires (omega arith) 4 _ (lit≤ tt) (start4 _ _ _ c.line_at-a.ensures _ c.line_at-b.ensures _ c.line_at-c.ensures _ c.line_at-d.ensures)

pub overflow_add-end : goal.overflow_add-end
overflow_add-end c =
    omega (
      arith,
      start_small c.args.file.now c.args.at c.requires (omega arith) 5 _ (lit≤ tt)
          (start5 _ _ _ c.line_at-a.ensures _ c.line_at-b.ensures _ c.line_at-c.ensures _ c.line_at-d.ensures _ c.line_at-e.ensures),
    )

pub returns : goal.returns
returns c =
    rw c.byte_at-last.ensures (text-read _ _ _ c.line_at-a.ensures _ c.line_at-b.ensures _ c.line_at-c.ensures _ c.line_at-d.ensures _ c.line_at-e.ensures)
