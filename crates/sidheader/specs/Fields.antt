-- Source 003, 'The SID file header v1' and 'v2', and document 01, 'PSID and RSID': the header's fields,
-- big-endian, at their offsets.
-- psid, rsid            the magic of each kind, 0x50534944 or 0x52534944
-- added                 a field that version 2 adds: 'Version 1 takes flags, page bytes and that word as 0'
-- fields_of              the fields of a file
-- basic, clock, model   flag bits as in 003: bit 1 (BASIC in an RSID), bits 2 and 3, bits 4 and 5
use Rattle.std.specs.Prelude.{ℕ, ◌/◌, ◌%◌, List, Bool, cond, length, get_or, eqb}
use Rattle.fields.specs.Numbers.{be16, be32}
use Rattle.sidheader.specs.declared.Fields.{Fields}

abbrev pub psid : ℕ
psid = 0x50534944

abbrev pub rsid : ℕ
rsid = 0x52534944

abbrev pub added : ℕ → ℕ → ℕ
added version field = cond (eqb version 1) 0 field

unfoldable pub fields_of : List ℕ → Fields
fields_of f =
    record {
      size = length f;
      magic = be32 f 0x00;
      version = be16 f 0x04;
      offset = be16 f 0x06;
      load = be16 f 0x08;
      init = be16 f 0x0A;
      play = be16 f 0x0C;
      songs = be16 f 0x0E;
      start = be16 f 0x10;
      speed = be32 f 0x12;
      flags = added (be16 f 0x04) (be16 f 0x76);
      page = added (be16 f 0x04) (get_or f 0x78 0);
      pages = added (be16 f 0x04) (get_or f 0x79 0);
      reserved = added (be16 f 0x04) (be16 f 0x7A);
    }

abbrev pub basic : Fields → Bool
basic x = eqb (x.flags / 2 % 2) 1

abbrev pub clock : Fields → ℕ
clock x = x.flags / 4 % 4

abbrev pub model : Fields → ℕ
model x = x.flags / 16 % 4
