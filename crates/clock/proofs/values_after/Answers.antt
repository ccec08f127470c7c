-- The values after an event are document 01's: a note sets none, and what a command sets is a law of its two
-- bytes, a line an arm.
use mathlib.Core.Path.{◌≡◌, sym, ◌∙◌}
use borrow.Author.Tests.{ne_eqb}
use borrow.Author.Rules.{rules}
use Rattle.clock.specs.Lengths.{values_after}
use Rattle.clock.specs.Settings.{values_are}
use Rattle.clock.proofs.values_after.Goals as goal

pub returns-then-first-eq0 : goal.returns-then-first-eq0
unfolding values_after
returns-then-first-eq0 c = rw c.if-first-eq0.true

pub returns-then-n-eq0 : goal.returns-then-n-eq0
returns-then-n-eq0 c =
    let at = c.args in
    let zero : at.second ≡ 0 = sym c.from-n.ensures ∙ c.if-n-eq0.true in
    rw (values_are at.values at.first at.second (search rules) (search rules), c.in-6.is, zero)

pub returns-else-n-eq0 : goal.returns-else-n-eq0
returns-else-n-eq0 c =
    let at = c.args in
    rw (values_are at.values at.first at.second (search rules) (search rules), c.in-6.is, c.from-n.ensures, ne_eqb at.second 0 (rw c.from-n.ensures at c.if-n-eq0.false))

pub returns-in-22 : goal.returns-in-22
returns-in-22 c = let at = c.args in rw (values_are at.values at.first at.second (search rules) (search rules), c.in-22.is, c.from-n.ensures)

pub returns-in-246 : goal.returns-in-246
returns-in-246 c = let at = c.args in rw (values_are at.values at.first at.second (search rules) (search rules), c.in-246.is, c.from-n.ensures)

pub returns-in_default : goal.returns-in_default
returns-in_default c =
    let at = c.args in
    let r = c.in_default.in_default-own.rest in
    rw (values_are at.values at.first at.second (search rules) (search rules), ne_eqb _ _ r.0.0.1, ne_eqb _ _ r.0.1, ne_eqb _ _ r.1)
