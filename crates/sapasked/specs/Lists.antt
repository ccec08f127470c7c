-- docs/INTERFACE.md, 'What a call answers' and 'The fields, times and blocks of a SAP file': what tt_sap_time
-- answers, and what stands in the list after tt_sap_block.
-- time_number     2 × milliseconds, plus 1 where LOOP follows; 4,294,967,295 where the time is unstated
-- block_numbers   'the address of the block's first byte, that of its last byte, and the file offset of its
--                first byte'; nothing where there is no such block
use Rattle.std.specs.Prelude.{Option, Some, None, ℕ, ◌+◌, ◌*◌, List, [], ◌∷◌}
use Rattle.sapblocks.specs.declared.Block.{Block}
use Rattle.sapparts.specs.declared.Duration.{Duration}
use Rattle.sapcalls.specs.Lists.{narrowed, flag_number}

abbrev pub time_number : Option Duration → ℕ
time_number None = 0xFFFFFFFF
time_number (Some d) = 2 * d.milliseconds + flag_number d.looped

abbrev pub block_numbers : Option Block → List ℕ
block_numbers None = []
block_numbers (Some b) = b.start ∷ b.end ∷ narrowed b.from ∷ []
