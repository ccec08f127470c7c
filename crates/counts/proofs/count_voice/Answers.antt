-- `counts::count_voice` meets its contract.
use mathlib.Core.Path.{subst}
use native.Mathlib.Omega.{arith}
use Rattle.counts.specs.Measures.{Measures, MeasureHolds}
use Rattle.bodies.proofs.Cells.{blank}
use Rattle.counts.proofs.Kept.{blank-cells}
use Rattle.counts.proofs.Capped.{too_deep_lem, too_long_lem, within}
use Rattle.counts.proofs.count_voice.Goals as goal

pub measure-requires : goal.measure-requires
measure-requires c = record { short = c.requires.0; inside = omega arith; low = omega arith; cells_ready = blank-cells }

pub returns-in_default : goal.returns-in_default
returns-in_default c = too_deep_lem _ c.requires.1 (rw c.in_default.is at c.measure.ensures)

pub returns-then-c-le1048576 : goal.returns-then-c-le1048576
returns-then-c-le1048576 c =
    let g : Measures _ (blank 24) 16 0 c.in-Some.m _ = subst (MeasureHolds _ _ _ _ _) c.in-Some.is c.measure.ensures in
    within _ c.requires.1 _ _ g (omega (arith, c.if-c-le1048576.true))

pub returns-else-c-le1048576 : goal.returns-else-c-le1048576
returns-else-c-le1048576 c =
    let g : Measures _ (blank 24) 16 0 c.in-Some.m _ = subst (MeasureHolds _ _ _ _ _) c.in-Some.is c.measure.ensures in
    too_long_lem _ c.requires.1 _ _ g (λ h. absurd (omega (arith, c.if-c-le1048576.false)))
