-- `pairmap::with_setting` meets its contract: the value that a command sets is among the values after it.
use borrow.Author.Rules.{rules}
use borrow.Author.Tests.{ne_eqb}
use Rattle.clock.specs.Lengths.{at_start}
use Rattle.clock.specs.Settings.{values_are}
use Rattle.pairmap.proofs.Joined.{joined-left}
use Rattle.pairmap.proofs.with_setting.Goals as goal

pub returns-in-6 : goal.returns-in-6
returns-in-6 c =
    let at = c.args in
    let after = values_are at_start at.first at.second (search rules) (search rules) in
    rw (
      c.values_after-after.ensures,
      c.at_start.ensures,
      after,
      c.in-6.is,
    )
    (joined-left at.a _ _ _)

pub returns-in-22 : goal.returns-in-22
returns-in-22 c =
    let at = c.args in
    let after = values_are at_start at.first at.second (search rules) (search rules) in
    rw (
      c.values_after-after.ensures,
      c.at_start.ensures,
      after,
      c.in-22.is,
    )
    (joined-left at.a _ _ _)

pub returns-in-246 : goal.returns-in-246
returns-in-246 c =
    let at = c.args in
    let after = values_are at_start at.first at.second (search rules) (search rules) in
    rw (
      c.values_after-after.ensures,
      c.at_start.ensures,
      after,
      c.in-246.is,
    )
    (joined-left at.a _ _ _)

pub returns-in_default : goal.returns-in_default
returns-in_default c =
    let r = c.in_default.in_default-own.rest in
    rw (ne_eqb _ _ r.0.0.1, ne_eqb _ _ r.0.1, ne_eqb _ _ r.1) (joined-left c.args.a _ _ _)
