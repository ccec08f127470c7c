-- `card::judge` meets its contract: the file's first five bytes decide.
use borrow.Author.Tests.{eq-eqb, ne_eqb}
use Rattle.card.proofs.judge.Goals as goal

pub returns-then-magic-eq-PSID : goal.returns-then-magic-eq-PSID
returns-then-magic-eq-PSID c = rw (← c.be32-magic.ensures, eq-eqb _ _ c.if-magic-eq-PSID.true) c.as_tune.ensures

pub returns-then-magic-eq-RSID : goal.returns-then-magic-eq-RSID
returns-then-magic-eq-RSID c = rw (← c.be32-magic.ensures, ne_eqb _ _ c.if-magic-eq-PSID.false, eq-eqb _ _ c.if-magic-eq-RSID.true) c.as_tune-then-magic-eq-RSID.ensures

pub returns-then-begins : goal.returns-then-begins
returns-then-begins c =
    rw (
      ← c.be32-magic.ensures,
      ne_eqb _ _ c.if-magic-eq-PSID.false,
      ne_eqb _ _ c.if-magic-eq-RSID.false,
      ← c.begins.ensures,
      c.if-begins.true,
    ) c.as_sap.ensures

pub returns-else-begins : goal.returns-else-begins
returns-else-begins c =
    rw (
      ← c.be32-magic.ensures,
      ne_eqb _ _ c.if-magic-eq-PSID.false,
      ne_eqb _ _ c.if-magic-eq-RSID.false,
      ← c.begins.ensures,
      c.if-begins.false,
    ) c.as_song.ensures
