-- A signed number as document 01 writes it in the section 'A pair': a sign and a size.
-- parts_of   whether a number is negative, and how far it is from 0
use Rattle.std.specs.Prelude.{true, false, ℤ, pos, negsuc, ◌+◌}
use Rattle.signed.specs.declared.Parts.{Parts}

abbrev pub parts_of : ℤ → Parts
parts_of (pos n) = record { negative = false; size = n }
parts_of (negsuc n) = record { negative = true; size = n + 1 }
