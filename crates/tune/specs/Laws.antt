-- A part of any place is a part of the lent bytes. What a part of an accepted file's tune is stands in
-- proofs/Accepted.antt.
-- part_length    a part of any place, also one made by hand, has those of its bytes that lie in the file, so
--                none where it begins past the end
-- part-byte      byte i of a part is byte i of the file from the part's first byte on
use Rattle.std.specs.Prelude.{ℕ, ◌+◌, ◌-◌, ◌<◌, min, ◌≡◌, List, length, drop, get_or}
use Rattle.std.proofs.Common.{◌∙◌, length-take, length-drop, get_or-take, get_or-drop}
use Rattle.fields.specs.Parts.{part_of}
use Rattle.fields.specs.declared.Span.{Span}

-- A part of any place, also one made by hand, has those of its bytes that lie in the file.
pub part_length : (f : List ℕ) (place : Span) → length (part_of f place) ≡ min place.len (length f - place.from)
part_length f place = simp (length-take, length-drop)

-- Byte i of a part is byte i of the file from the part's first byte on.
pub part-byte : (f : List ℕ) (place : Span) (i : ℕ) → i < place.len → get_or (part_of f place) i 0 ≡ get_or f (place.from + i) 0
part-byte f place i h = get_or-take place.len (drop place.from f) i 0 h ∙ get_or-drop place.from f i 0
