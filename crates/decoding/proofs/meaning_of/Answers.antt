use Rattle.std.proofs.Common.{ne_eqb}
use Rattle.decoding.specs.Decoding.{decoded}
use Rattle.decoding.proofs.meaning_of.Goals as goal

pub returns-else-v-eq0 : goal.returns-else-v-eq0
unfolding decoded
returns-else-v-eq0 c =
    rw (ne_eqb _ _ c.if-code-eq1.false, c.in-1.is, ne_eqb _ _ c.if-v-eq0.false, c.negative_at.ensures)

pub returns-in_default : goal.returns-in_default
unfolding decoded
returns-in_default c =
    let others = c.in_default.in_default-own.rest in
    rw (ne_eqb _ _ c.if-code-eq1.false, ne_eqb _ _ others.0.1, ne_eqb _ _ others.1, c.into-in_default.ensures)
