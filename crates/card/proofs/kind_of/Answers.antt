-- `card::kind_of` meets its contract: the file's first five bytes decide, and then the outcome of its head.
use mathlib.Core.Path.{sym, ap, ◌∙◌}
use borrow.Author.Tests.{eq-eqb, ne_eqb}
use Rattle.refusals.specs.Numbers.{outcome_of}
use Rattle.card.specs.Kinds.{head_kind}
use Rattle.card.proofs.kind_of.Goals as goal

pub returns-then-magic-eq-PSID : goal.returns-then-magic-eq-PSID
returns-then-magic-eq-PSID c = rw (← c.be32-magic.ensures, eq-eqb _ _ c.if-magic-eq-PSID.true)

pub returns-then-magic-eq-RSID : goal.returns-then-magic-eq-RSID
returns-then-magic-eq-RSID c = rw (← c.be32-magic.ensures, ne_eqb _ _ c.if-magic-eq-PSID.false, eq-eqb _ _ c.if-magic-eq-RSID.true)

pub returns-then-begins : goal.returns-then-begins
returns-then-begins c =
    rw (
      ← c.be32-magic.ensures,
      ne_eqb _ _ c.if-magic-eq-PSID.false,
      ne_eqb _ _ c.if-magic-eq-RSID.false,
      ← c.begins.ensures,
      c.if-begins.true,
    ) c.sap_kind.ensures

pub returns-in-Err : goal.returns-in-Err
returns-in-Err c =
    rw (
      ← c.be32-magic.ensures,
      ne_eqb _ _ c.if-magic-eq-PSID.false,
      ne_eqb _ _ c.if-magic-eq-RSID.false,
      ← c.begins.ensures,
      c.if-begins.false,
    ) (ap head_kind (ap outcome_of (sym c.in-Err.is) ∙ c.read_head.ensures))

pub returns-in-Ok : goal.returns-in-Ok
returns-in-Ok c =
    rw (
      ← c.be32-magic.ensures,
      ne_eqb _ _ c.if-magic-eq-PSID.false,
      ne_eqb _ _ c.if-magic-eq-RSID.false,
      ← c.begins.ensures,
      c.if-begins.false,
    ) (ap head_kind (ap outcome_of (sym c.in-Ok.is) ∙ c.read_head.ensures))
