-- A law of signed numbers at 32 bits, for whoever calls a function that answers one.
-- kept   a number in range comes back from its 32 bits
use Rattle.std.specs.Prelude.{◌<◌, ◌^◌, ◌≡◌, ℤ}
use Rattle.std.specs.Int.Signed.{mag}
use Rattle.std.specs.Int.{w32}
use Rattle.std.proofs.Common.{to_z, of_z, to_z-of_z}

-- A signed number whose size is below 2^31 comes back from its 32 bits.
pub kept : (z : ℤ) → mag z < 2 ^ 31 → to_z w32 (of_z w32 z) ≡ z
kept z h = to_z-of_z {w = w32} (record { sfits = h })
