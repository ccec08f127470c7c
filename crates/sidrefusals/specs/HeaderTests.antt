-- Document 01, 'PSID and RSID': the tests of the header's fields, 1 to 8, in the paper's order.
-- is_psid, is_rsid, one, two   the magic and the version by name
-- header_tests                the tests
use Rattle.std.specs.Prelude.{◌/◌, ◌%◌, Bool, not, ◌&&◌, ◌||◌, List, [], ◌∷◌, ltb, eqb}
use Rattle.refusals.specs.declared.Reason.TheVariants.{TooShort, Magic, Version, DataOffset, RsidReserved, Songs, ReservedBits, MusPayload}
use Rattle.refusals.specs.declared.Test.{Test}
use Rattle.refusals.specs.Tests.{test}
use Rattle.sidheader.specs.declared.Fields.{Fields}
use Rattle.sidheader.specs.Fields.{psid, rsid}

abbrev pub is_psid : Fields → Bool
is_psid x = eqb x.magic psid

abbrev pub is_rsid : Fields → Bool
is_rsid x = eqb x.magic rsid

abbrev pub one : Fields → Bool
one x = eqb x.version 1

abbrev pub two : Fields → Bool
two x = eqb x.version 2

abbrev pub header_tests : Fields → List Test
header_tests x =
    -- 1: under 118 bytes
    test TooShort (ltb x.size 118)
    -- 2: first four bytes neither PSID nor RSID
    ∷ test Magic (not (is_psid x) && not (is_rsid x))
    -- 3: version not 1 or 2; RSID not 2
    ∷ test Version (not (one x || two x) || is_rsid x && not (two x))
    -- 1 again: version 2 and under 124 bytes
    ∷ test TooShort (two x && ltb x.size 124)
    -- 4: data offset not $76 (version 1) or $7C (version 2)
    ∷ test DataOffset (one x && not (eqb x.offset 0x76) || two x && not (eqb x.offset 0x7C))
    -- 5: RSID with load, play or speed field not 0
    ∷ test RsidReserved (is_rsid x && (not (eqb x.load 0) || not (eqb x.play 0) || not (eqb x.speed 0)))
    -- 6: songs 0 or above 256; start song above songs
    ∷ test Songs (eqb x.songs 0 || ltb 256 x.songs || ltb x.songs x.start)
    -- 7: flag bits 6 to 15, or the word at $7A, not 0
    ∷ test ReservedBits (not (eqb (x.flags / 64) 0) || not (eqb x.reserved 0))
    -- 8: flag bit 0 set
    ∷ test MusPayload (eqb (x.flags % 2) 1)
    ∷ []
