use Prim.Native.Nat.{ℕ, ◌<◌}
use mathlib.Core.Path.{refl, sym, subst, ◌∙◌}
use native.Mathlib.Omega.{arith}
use Rattle.bodies.proofs.Stored.{plain-pair-event}
use Rattle.structure.specs.Steps.{heds, openers_of}
use Rattle.structure.proofs.Passes.{seen_start, none_held, number-few, step-off, step-on, step-few, plain-on, nest_end}
use Rattle.structure.proofs.structure_finding.Goals as goal

pub loop-i-init : goal.loop-i-init
unfolding openers_of heds
loop-i-init c = (omega arith, seen_start _ _ _ refl none_held refl (record { inside = omega arith; outside = omega arith; phrase = omega arith }))

pub bounds-closed-number_of : goal.bounds-closed-number_of
bounds-closed-number_of c = subst (λ (k : ℕ). k < 24) (sym c.number_of.ensures) (number-few c.kind_at-kind.result c.kind_at-kind.ensures.1)

pub pass-requires : goal.pass-requires
pass-requires c = let inv = c.loop-i.invariant in (omega (arith, inv.1.few.inside, inv.0, c.requires), inv.1.few.phrase, c.kind_at-kind.ensures.1)

pub returns-in-Err : goal.returns-in-Err
returns-in-Err c =
    (step-off _ _ _ _ c.loop-i.invariant.1 c.loop-i-test.true c.kind_at-kind.ensures.0 c.number_of.ensures _ c.in-Err.is c.pass.ensures)

pub close-requires : goal.close-requires
close-requires c =
    (step-few _ _ _ _ c.loop-i.invariant.1 c.loop-i-test.true c.kind_at-kind.ensures.0 c.number_of.ensures _ c.in-Ok.is c.pass.ensures)

pub loop-i-preserved : goal.loop-i-preserved
loop-i-preserved c =
    (omega (arith, c.loop-i-test.true), rw c.close.ensures (step-on _ _ _ _ c.loop-i.invariant.1 c.loop-i-test.true c.kind_at-kind.ensures.0 c.number_of.ensures _ c.in-Ok.is c.pass.ensures))

pub returns : goal.returns
returns c = sym (nest_end _ _ _ _ c.loop-i.invariant.1 (omega (arith, c.loop-i-test.false)))

pub loop-i-preserved-then-plain_at : goal.loop-i-preserved-then-plain_at
loop-i-preserved-then-plain_at c =
    let taken = c.loop-i-test.true in
    (omega (arith, taken), plain-on _ _ _ _ c.loop-i.invariant.1 taken (plain-pair-event _ _ (sym c.plain_at.ensures ∙ c.if-plain_at.true)))
