use native.Mathlib.Omega.{arith}
use Rattle.container.proofs.Lines.{counted-closed, counted-more, counted_all, end-past}
use Rattle.container.proofs.text.line_end.Goals as goal

pub returns-then-file-from : goal.returns-then-file-from
returns-then-file-from c = end-past _ _ c.if-file-from.true

pub loop-n-init : goal.loop-n-init
loop-n-init c = (omega arith, omega arith, omega arith)

pub returns-then-b : goal.returns-then-b
returns-then-b c = counted-closed _ _ _ c.loop-n.invariant c.loop-n-test.true c.if-b.true

pub loop-n-preserved : goal.loop-n-preserved
loop-n-preserved c = counted-more _ _ _ c.loop-n.invariant c.loop-n-test.true c.if-b.false

pub returns : goal.returns
returns c = counted_all _ _ _ c.loop-n.invariant c.loop-n-test.false
