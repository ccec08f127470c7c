-- One line an arm: first bytes whose second byte counts by a test over it, the others by the first byte
-- alone.
use mathlib.Core.Bool.{◌&&◌, ◌||◌}
use Prim.Native.Nat.{◌%◌}
use native.Mathlib.Nat.{zero-add}
use lib.Dec.{leb, ltb}
use borrow.Author.Tests.{ne_eqb}
use borrow.Author.Rules.{rules}
use Rattle.kind.proofs.Rows.{ranged_as, por_event, low-bad, rest-event}
use Rattle.kind.proofs.others.other_kind.Goals as goal

pub returns-then-first-eq3 : goal.returns-then-first-eq3
returns-then-first-eq3 c = rw (por_event c.args.first c.args.second (search rules) (search rules))

pub returns-then-first-ne2 : goal.returns-then-first-ne2
returns-then-first-ne2 c = rw (low-bad c.args.first c.args.second (search rules) (search rules), c.number.ensures)

pub returns-in-54 : goal.returns-in-54
returns-in-54 c = rw (c.in-54.is, zero-add c.args.second)

pub returns-in-118 : goal.returns-in-118
returns-in-118 c = rw (c.in-118.is, c.event_if.ensures) (ranged_as 0x76 (λ k. leb k 127) tt c.args.second (search rules))

pub returns-in-198 : goal.returns-in-198
returns-in-198 c = rw (c.in-198.is, c.event_if-in-198.ensures) (ranged_as 0xC6 (λ k. leb k 127) tt c.args.second (search rules))

pub returns-in-214 : goal.returns-in-214
returns-in-214 c = rw (c.in-214.is, c.event_if-in-214.ensures) (ranged_as 0xD6 (λ k. leb k 127) tt c.args.second (search rules))

pub returns-in-110 : goal.returns-in-110
returns-in-110 c = rw (c.in-110.is, c.event_if-in-110.ensures) (ranged_as 0x6E (λ k. leb k 7 || leb 249 k) tt c.args.second (search rules))

pub returns-in-166 : goal.returns-in-166
returns-in-166 c = rw (c.in-166.is, c.event_if-in-166.ensures) (ranged_as 0xA6 (λ k. ltb k 0xC0) tt c.args.second (search rules))

pub returns-in-46 : goal.returns-in-46
returns-in-46 c = rw (c.in-46.is, c.event_if-in-46.ensures) (ranged_as 0x2E (λ k. ltb k 0xB8 && (leb 0x60 k || ltb (k % 8) 7)) tt c.args.second (search rules))

pub returns-in-190 : goal.returns-in-190
returns-in-190 c = rw (c.in-190.is, c.event_if-in-190.ensures) (ranged_as 0xBE (λ k. ltb k 0xF6) tt c.args.second (search rules))

pub returns-in-254 : goal.returns-in-254
returns-in-254 c = rw (c.in-254.is, c.event_if-in-254.ensures) (ranged_as 0xFE (λ k. ltb 0x37 k) tt c.args.second (search rules))

pub returns-in_default : goal.returns-in_default
returns-in_default c =
    let r = c.in_default.in_default-own.rest in
    rw (rest-event c.args.first c.args.second (search rules) (search rules) (search rules) (rw (ne_eqb _ _ r.0.0.0.0.0.0.0.0.0.0.0.0.1, ne_eqb _ _ r.0.0.0.0.0.0.0.0.0.0.0.1, ne_eqb _ _ r.0.0.0.0.0.0.0.0.0.0.1, ne_eqb _ _ r.0.0.0.0.0.0.0.0.0.1, ne_eqb _ _ r.0.0.0.0.0.0.0.0.1, ne_eqb _ _ r.0.0.0.0.0.0.0.1, ne_eqb _ _ r.0.0.0.0.0.0.1, ne_eqb _ _ r.0.0.0.0.0.1, ne_eqb _ _ r.0.0.0.0.1, ne_eqb _ _ r.0.0.0.1, ne_eqb _ _ r.0.0.1, ne_eqb _ _ r.0.1, ne_eqb _ _ r.1)))

pub returns-in-142 : goal.returns-in-142
returns-in-142 c = rw (c.in-142.is, c.number-in-142.ensures)

pub returns-in-174 : goal.returns-in-174
returns-in-174 c = rw (c.in-174.is, c.number-in-174.ensures)

pub returns-in-206 : goal.returns-in-206
returns-in-206 c = rw (c.in-206.is, c.number-in-206.ensures)

pub returns-in-238 : goal.returns-in-238
returns-in-238 c = rw (c.in-238.is, c.number-in-238.ensures)
