-- Document 01, 'PSID and RSID', test 9: 'With load field 0 the first two data bytes, low byte first, are the
-- load address and the payload follows them.' With another load field the data are the payload.
-- addressed      the data begin with their own load address
-- after_address   the payload that follows its address
-- whole_data      the payload that is the data whole
-- payload_of      the payload's address, and its first byte and length in the file
-- init_of         test 12: 'the effective init (load address where the field is 0)'
use Rattle.std.specs.Prelude.{ℕ, ◌+◌, ◌-◌, Bool, cond, List, eqb}
use Rattle.fields.specs.Numbers.{le16}
use Rattle.sidheader.specs.declared.Fields.{Fields}
use Rattle.sidheader.specs.declared.Payload.{Payload}

abbrev pub addressed : Fields → Bool
addressed x = eqb x.load 0

abbrev pub after_address : List ℕ → Fields → Payload
after_address f x = record { load = le16 f x.offset; from = x.offset + 2; len = x.size - (x.offset + 2) }

abbrev pub whole_data : Fields → Payload
whole_data x = record { load = x.load; from = x.offset; len = x.size - x.offset }

unfoldable pub payload_of : List ℕ → Fields → Payload
payload_of f x = cond (addressed x) (after_address f x) (whole_data x)

unfoldable pub init_of : Fields → Payload → ℕ
init_of x p = cond (eqb x.init 0) p.load x.init
