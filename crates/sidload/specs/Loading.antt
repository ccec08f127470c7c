-- Document 01, 'What comes back' and 'PSID and RSID': loading a file into memory.
-- load_outcome   '40, 41 and 42 are tested before the file': 40 where memory is not 65,536 bytes, then the
--               file's own
-- put_outcome    the same with the fields and the payload that the header is made of
-- memory_with    what an outcome puts into memory
-- memory_after   'Loading leaves every cell but the payload's as it stood'; a refusal 'changes no lent
--               memory'
use Rattle.std.specs.Prelude.{ℕ, not, List, [], ◌∷◌, length, eqb}
use Rattle.refusals.specs.Numbers.{Outcome}
use Rattle.refusals.specs.Numbers.Outcome.{accepted, refused}
use Rattle.refusals.specs.declared.Reason.TheVariants.{MemorySize}
use Rattle.refusals.specs.Tests.{test, first_of, guarded}
use Rattle.fields.specs.Parts.{put, part_of}
use Rattle.sidheader.specs.declared.Parts.{Parts}
use Rattle.sid.specs.declared.Header.{Header}
use Rattle.sid.specs.Answers.{sid_outcome, tested_outcome}

unfoldable pub load_outcome : List ℕ → ℕ → Outcome Header
load_outcome f cells = guarded (first_of (test MemorySize (not (eqb cells 65536)) ∷ [])) (sid_outcome f)

unfoldable pub put_outcome : List ℕ → ℕ → Outcome Parts
put_outcome f cells = guarded (first_of (test MemorySize (not (eqb cells 65536)) ∷ [])) (tested_outcome f)

abbrev pub memory_with : Outcome Header → List ℕ → List ℕ → List ℕ
memory_with (accepted h) f m = put m h.load (part_of f h.payload)
memory_with (refused n place) f m = m

unfoldable pub memory_after : List ℕ → List ℕ → List ℕ
memory_after f m = memory_with (load_outcome f (length m)) f m
