use borrow.Author.Tests.{ne_eqb}
use mathlib.Core.Path.{refl, sym, ◌∙◌}
use native.Mathlib.Omega.{arith}
use Rattle.bodies.proofs.Stored.{plain-pair-event}
use Rattle.structure.specs.Findings.{pairs_finding}
use Rattle.structure.proofs.Passes.{pair_failed, pair-passed, plain-passed, pair_end}
use Rattle.structure.proofs.pairs_finding.Goals as goal

pub loop-i-init : goal.loop-i-init
unfolding pairs_finding
loop-i-init c = (omega arith, refl)

pub loop-i-preserved-then-plain_at : goal.loop-i-preserved-then-plain_at
loop-i-preserved-then-plain_at c =
    let taken = c.loop-i-test.true in (
      omega (arith, taken),
      sym (plain-passed _ _ taken (plain-pair-event _ _ (sym c.plain_at.ensures ∙ c.if-plain_at.true)) (ne_eqb _ _ c.if-not-last.true)) ∙ c.loop-i.invariant.1,
    )

pub returns-in-Err : goal.returns-in-Err
returns-in-Err c =
    sym (pair_failed _ _ c.loop-i-test.true _ (rw (sym c.kind_at-kind.ensures.0) (sym c.test_pair.ensures ∙ c.in-Err.is)))
    ∙ c.loop-i.invariant.1

pub loop-i-preserved : goal.loop-i-preserved
loop-i-preserved c =
    let taken = c.loop-i-test.true in (
      omega (arith, taken),
      sym (pair-passed _ _ taken (rw (sym c.kind_at-kind.ensures.0) (sym c.test_pair.ensures ∙ c.in_default.is)))
          ∙ c.loop-i.invariant.1,
    )

pub returns : goal.returns
returns c = sym (pair_end _ _ (omega (arith, c.loop-i-test.false))) ∙ c.loop-i.invariant.1
