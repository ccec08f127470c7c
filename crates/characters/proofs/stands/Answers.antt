use Rattle.std.proofs.Common.{sym, ◌∙◌}
use Rattle.characters.proofs.Words.{same_more, other, all}
use Rattle.characters.proofs.stands.Goals as goal

pub returns-then-byte_at-b : goal.returns-then-byte_at-b
returns-then-byte_at-b c = other _ _ _ c.loop-n.invariant c.loop-n-test.true (λ e. c.if-byte_at-b.true (c.byte_at.ensures ∙ e))

pub loop-n-preserved : goal.loop-n-preserved
loop-n-preserved c = same_more _ _ _ c.loop-n.invariant c.loop-n-test.true (sym c.byte_at.ensures ∙ c.if-byte_at-b.false)

pub returns : goal.returns
returns c = all _ _ _ c.loop-n.invariant c.loop-n-test.false
