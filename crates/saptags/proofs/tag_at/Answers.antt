-- `tag_at` meets its contract: in each arm only the names with its letter count. Assumes nothing.
use mathlib.Core.Path.{refl}
use native.Mathlib.Omega.{arith}
use borrow.Author.Tests.{ne_eqb}
use Rattle.saptags.proofs.Letters.{by_letter}
use Rattle.saptags.proofs.tag_at.Goals as goal

pub returns-in-65 : goal.returns-in-65
returns-in-65 c = by_letter c.args.bytes.now 0x41 c.byte_at.ensures c.in-65.is c.named.ensures

pub returns-in-78 : goal.returns-in-78
returns-in-78 c = by_letter c.args.bytes.now 0x4E c.byte_at.ensures c.in-78.is c.either.ensures

pub returns-in-68 : goal.returns-in-68
returns-in-68 c = by_letter c.args.bytes.now 0x44 c.byte_at.ensures c.in-68.is c.either-in-68.ensures

pub returns-in-83 : goal.returns-in-83
returns-in-83 c = by_letter c.args.bytes.now 0x53 c.byte_at.ensures c.in-83.is c.either-in-83.ensures

pub returns-in-84 : goal.returns-in-84
returns-in-84 c = by_letter c.args.bytes.now 0x54 c.byte_at.ensures c.in-84.is c.either-in-84.ensures

pub returns-in-70 : goal.returns-in-70
returns-in-70 c = by_letter c.args.bytes.now 0x46 c.byte_at.ensures c.in-70.is c.named-in-70.ensures

pub returns-in-73 : goal.returns-in-73
returns-in-73 c = by_letter c.args.bytes.now 0x49 c.byte_at.ensures c.in-73.is c.named-in-73.ensures

pub returns-in-77 : goal.returns-in-77
returns-in-77 c = by_letter c.args.bytes.now 0x4D c.byte_at.ensures c.in-77.is c.named-in-77.ensures

pub returns-in-80 : goal.returns-in-80
returns-in-80 c = by_letter c.args.bytes.now 0x50 c.byte_at.ensures c.in-80.is c.named-in-80.ensures

pub returns-in-67 : goal.returns-in-67
returns-in-67 c = by_letter c.args.bytes.now 0x43 c.byte_at.ensures c.in-67.is c.named-in-67.ensures

pub returns-in_default : goal.returns-in_default
returns-in_default c =
    let b = c.byte_at.result in
    by_letter c.args.bytes.now b c.byte_at.ensures refl
    (rw (ne_eqb b 0x41 (omega arith), ne_eqb b 0x4E (omega arith), ne_eqb b 0x44 (omega arith), ne_eqb b 0x53 (omega arith), ne_eqb b 0x54 (omega arith), ne_eqb b 0x46 (omega arith), ne_eqb b 0x49 (omega arith), ne_eqb b 0x4D (omega arith), ne_eqb b 0x50 (omega arith), ne_eqb b 0x43 (omega arith)))
