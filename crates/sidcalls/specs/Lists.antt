-- docs/INTERFACE.md, 'The header's fields': what stands in the list after a call that accepts.
-- kind_number, flag_number   '0 for PSID, 1 for RSID'; a flag bit
-- header_numbers            the header's fields in their order
use Rattle.std.specs.Prelude.{ℕ, Bool, true, false, List, [], ◌∷◌}
use Rattle.sid.specs.declared.Kind.{Kind}
use Rattle.sid.specs.declared.Kind.TheVariants.{Psid, Rsid}
use Rattle.sid.specs.declared.Header.{Header}

abbrev pub kind_number : Kind → ℕ
kind_number Psid = 0
kind_number Rsid = 1

abbrev pub flag_number : Bool → ℕ
flag_number false = 0
flag_number true = 1

abbrev pub header_numbers : Header → List ℕ
header_numbers h =
    kind_number h.kind
    ∷ h.version
    ∷ h.load
    ∷ h.init
    ∷ h.play
    ∷ h.songs
    ∷ h.start
    ∷ h.speed
    ∷ flag_number h.basic
    ∷ h.clock
    ∷ h.model
    ∷ h.page
    ∷ h.pages
    ∷ h.title.from
    ∷ h.title.len
    ∷ h.author.from
    ∷ h.author.len
    ∷ h.released.from
    ∷ h.released.len
    ∷ h.payload.from
    ∷ h.payload.len
    ∷ []
