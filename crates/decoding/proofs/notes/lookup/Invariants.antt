-- `decoding::notes::lookup` meets its contract: no entry that the loop has passed has the number.
use Rattle.std.proofs.Common.{◌≡◌, drop}
use Rattle.decoding.specs.Tables.{lookup}
use Rattle.decoding.proofs.notes.lookup.Given as goal

abbrev pub invariant-loop-digits : goal.invariant-loop-digits
invariant-loop-digits g l = lookup l.table l.number ≡ lookup (drop l.digits-index l.table) l.number
