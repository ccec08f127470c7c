-- Document 01, 'What comes back', and document 02 (i): loading a SAP file into memory.
-- sap_load_outcome   '40, 41 and 42 are tested before the file': 40 where memory is not 65,536 bytes, then
--                  the file's own
-- sap_memory_with    what an outcome puts into memory
-- sap_memory_after   'Loading goes block by block, a later byte replacing an earlier one'; a refusal 'changes
--                  no lent memory'
use Rattle.std.specs.Prelude.{ℕ, not, List, [], ◌∷◌, length, eqb}
use Rattle.refusals.specs.Numbers.{Outcome}
use Rattle.refusals.specs.Numbers.Outcome.{accepted, refused}
use Rattle.refusals.specs.declared.Reason.TheVariants.{MemorySize}
use Rattle.refusals.specs.Tests.{test, first_of, guarded}
use Rattle.sapblocks.specs.Blocks.{listed}
use Rattle.sapput.specs.Putting.{blocks_put}
use Rattle.sapheader.specs.declared.Header.{Header}
use Rattle.sap.specs.Answers.{blocks_after, sap_outcome}

unfoldable pub sap_load_outcome : List ℕ → ℕ → Outcome Header
sap_load_outcome f cells = guarded (first_of (test MemorySize (not (eqb cells 65536)) ∷ [])) (sap_outcome f)

abbrev pub sap_memory_with : Outcome Header → List ℕ → List ℕ → List ℕ
sap_memory_with (accepted h) f m = blocks_put f (listed (blocks_after f)) m
sap_memory_with (refused n place) f m = m

unfoldable pub sap_memory_after : List ℕ → List ℕ → List ℕ
sap_memory_after f m = sap_memory_with (sap_load_outcome f (length m)) f m
