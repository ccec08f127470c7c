-- Document 01, 'What comes back' and 'PSID and RSID': what reading a PSID or RSID file comes back with.
-- sid_outcome               the first of 1 to 13 that applies, else the header
-- passing, tested_outcome   the same with the fields and the payload that the header is made of, for code
--                           that needs no texts
-- headed                    such an outcome with its header made
use Rattle.std.specs.Prelude.{ℕ, List}
use Rattle.refusals.specs.Numbers.{Outcome}
use Rattle.refusals.specs.Numbers.Outcome.{accepted, refused}
use Rattle.refusals.specs.Tests.{first_of, guarded}
use Rattle.sidheader.specs.declared.Fields.{Fields}
use Rattle.sidheader.specs.declared.Payload.{Payload}
use Rattle.sidheader.specs.declared.Parts.{Parts}
use Rattle.sidheader.specs.Fields.{fields_of}
use Rattle.sidheader.specs.Payload.{payload_of}
use Rattle.sidrefusals.specs.PayloadTests.{sid_tests}
use Rattle.sid.specs.declared.Header.{Header}
use Rattle.sid.specs.Header.{header_of}

unfoldable pub sid_outcome : List ℕ → Outcome Header
sid_outcome f = guarded (first_of (sid_tests f)) (accepted (header_of f (fields_of f) (payload_of f (fields_of f))))

abbrev pub passing : Fields → Payload → Parts
passing x p = record { fields = x; payload = p }

unfoldable pub tested_outcome : List ℕ → Outcome Parts
tested_outcome f = guarded (first_of (sid_tests f)) (accepted (passing (fields_of f) (payload_of f (fields_of f))))

abbrev pub headed : List ℕ → Outcome Parts → Outcome Header
headed f (accepted t) = accepted (header_of f t.fields t.payload)
headed f (refused n place) = refused n place
