-- One line an arm of one first byte; the others by the rows whose value begins in the first byte.
use mathlib.Core.Path.{sym}
use native.Mathlib.Nat.{zero-add}
use borrow.Author.Tests.{ne_eqb}
use borrow.Author.Rules.{rules}
use Rattle.signed.specs.Laws.{kept}
use Rattle.command.specs.Others.{single_rows, row_found, joined_outcome}
use Rattle.command.proofs.Firsts.{pulse_as, single-missed}
use Rattle.command.proofs.others.read_other.Goals as goal

pub returns-then-first-eq2 : goal.returns-then-first-eq2
returns-then-first-eq2 c = rw (pulse_as c.args.first c.args.second (row_found single_rows c.args.first c.args.second (joined_outcome c.args.first c.args.second)) (search rules), c.if-first-eq2.true)

pub returns-in-86 : goal.returns-in-86
returns-in-86 c = rw (c.in-86.is, zero-add c.args.second, kept c.signed_byte.result c.signed_byte.type_inv, c.signed_byte.ensures)

pub returns-in-102 : goal.returns-in-102
returns-in-102 c = rw (c.in-102.is, zero-add c.args.second, kept c.signed_byte-in-102.result c.signed_byte-in-102.type_inv, c.signed_byte-in-102.ensures)

pub returns-in-110 : goal.returns-in-110
returns-in-110 c = rw (c.in-110.is, zero-add c.args.second, c.read_sca.ensures)

pub returns-in-150 : goal.returns-in-150
returns-in-150 c = rw (c.in-150.is, zero-add c.args.second, kept c.signed_byte-in-150.result c.signed_byte-in-150.type_inv, c.signed_byte-in-150.ensures)

pub returns-in-166 : goal.returns-in-166
returns-in-166 c = rw (c.in-166.is, zero-add c.args.second, c.read_tps.ensures)

pub returns-in-46 : goal.returns-in-46
returns-in-46 c = rw (c.in-46.is, zero-add c.args.second, c.read_rtp.ensures)

pub returns-in_default : goal.returns-in_default
returns-in_default c =
    let a = c.args.first in
    let b = c.args.second in
    let r = c.in_default.in_default-own.rest in
    rw (pulse_as a b (row_found single_rows a b (joined_outcome a b)) (search rules), ne_eqb _ _ c.if-first-eq2.false, c.read_joined.ensures)
    (sym (single-missed a b (joined_outcome a b) (search rules) (rw (ne_eqb _ _ r.0.0.0.0.0.0.0.0.0.0.0.0.0.0.0.0.0.0.0.1, ne_eqb _ _ r.0.0.0.0.0.0.0.0.0.0.0.0.0.0.0.0.0.0.1, ne_eqb _ _ r.0.0.0.0.0.0.0.0.0.0.0.0.0.0.0.0.0.1, ne_eqb _ _ r.0.0.0.0.0.0.0.0.0.0.0.0.0.0.0.0.1, ne_eqb _ _ r.0.0.0.0.0.0.0.0.0.0.0.0.0.0.0.1, ne_eqb _ _ r.0.0.0.0.0.0.0.0.0.0.0.0.0.0.1, ne_eqb _ _ r.0.0.0.0.0.0.0.0.0.0.0.0.0.1, ne_eqb _ _ r.0.0.0.0.0.0.0.0.0.0.0.0.1, ne_eqb _ _ r.0.0.0.0.0.0.0.0.0.0.0.1, ne_eqb _ _ r.0.0.0.0.0.0.0.0.0.0.1, ne_eqb _ _ r.0.0.0.0.0.0.0.0.0.1, ne_eqb _ _ r.0.0.0.0.0.0.0.0.1, ne_eqb _ _ r.0.0.0.0.0.0.0.1, ne_eqb _ _ r.0.0.0.0.0.0.1, ne_eqb _ _ r.0.0.0.0.0.1, ne_eqb _ _ r.0.0.0.0.1, ne_eqb _ _ r.0.0.0.1, ne_eqb _ _ r.0.0.1, ne_eqb _ _ r.0.1, ne_eqb _ _ r.1))))
