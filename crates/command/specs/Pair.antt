-- Document 01, 'A pair', commands: 'First byte 01: ..' and 'First byte otherwise: ..'
-- command_from      the meaning of a command's pair, or 27 or 28, where a number is the least of the rows
--                  1nnn of DEF and CAL (rows_from of crates/commandtable/specs/Codes.antt)
-- command_outcome   the same by the table as it holds
use Rattle.std.specs.Prelude.{ℕ, cond, eqb}
use Rattle.meaning.specs.declared.Meaning.{Meaning}
use Rattle.refusals.specs.Numbers.{Outcome}
use Rattle.commandtable.specs.Codes.{second_from}
use Rattle.command.specs.Others.{other_outcome}

abbrev pub command_from : ℕ → ℕ → ℕ → Outcome Meaning
command_from least a b = cond (eqb a 1) (second_from least b) (other_outcome a b)

abbrev pub command_outcome : ℕ → ℕ → Outcome Meaning
command_outcome a b = command_from 0 a b
