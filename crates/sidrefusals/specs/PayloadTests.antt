-- Document 01, 'PSID and RSID': the tests of where the payload lies, 9 to 13, in the paper's order.
-- data_bytes      how many bytes follow the header
-- barred_init     'below $07E8, in $A000-$BFFF or in $D000-$FFFF'
-- payload_tests   the tests
-- sid_tests       1 to 13 of a file, whole
use Rattle.std.specs.Prelude.{ℕ, ◌+◌, ◌-◌, Bool, not, ◌&&◌, ◌||◌, List, [], ◌∷◌, ◌++◌, ltb, eqb}
use Rattle.refusals.specs.declared.Reason.TheVariants.{NoPayload, PastMemory, RsidLoad, RsidInit, FreePages}
use Rattle.refusals.specs.declared.Test.{Test}
use Rattle.refusals.specs.Tests.{test}
use Rattle.sidheader.specs.declared.Fields.{Fields}
use Rattle.sidheader.specs.declared.Payload.{Payload}
use Rattle.sidheader.specs.Fields.{fields_of, basic}
use Rattle.sidheader.specs.Payload.{addressed, payload_of, init_of}
use Rattle.sidrefusals.specs.HeaderTests.{is_rsid, header_tests}
use Rattle.sidrefusals.specs.Pages.{between, bad_pages}

abbrev pub data_bytes : Fields → ℕ
data_bytes x = x.size - x.offset

unfoldable pub barred_init : ℕ → Bool
barred_init address = ltb address 0x07E8 || between 0xA000 0xBFFF address || between 0xD000 0xFFFF address

abbrev pub payload_tests : Fields → Payload → List Test
payload_tests x p =
    -- 9: load field 0 and fewer than 3 data bytes, or load field not 0 and no data
    test NoPayload (addressed x && ltb (data_bytes x) 3 || not (addressed x) && eqb (data_bytes x) 0)
    -- 10: load address plus payload length above 65,536
    ∷ test PastMemory (ltb 65536 (p.load + p.len))
    -- 11: RSID load address below $07E8
    ∷ test RsidLoad (is_rsid x && ltb p.load 0x07E8)
    -- 12: RSID with bit 1 (BASIC) set and init field not 0; or without it, the effective init barred
    ∷ test RsidInit (is_rsid x && (basic x && not (eqb x.init 0) || not (basic x) && barred_init (init_of x p)))
    -- 13: the stated free pages, as Pages has it
    ∷ test FreePages (bad_pages x p)
    ∷ []

unfoldable pub sid_tests : List ℕ → List Test
sid_tests f = header_tests (fields_of f) ++ payload_tests (fields_of f) (payload_of f (fields_of f))
