-- stepped   a value within its greatest stays within the byte that the greatest has
use Prim.Native.Nat.{ℕ, ◌+◌, ◌*◌, ◌≤◌, ◌<◌}
use native.Mathlib.Nat.{mul-le-mul_left}
use native.Mathlib.Omega.{arith}

pub stepped : (v most base step : ℕ) → v ≤ most → base + step * most < 256 → base + step * v < 256
stepped v most base step h top =
    let below : step * v ≤ step * most = mul-le-mul_left step h in
    omega arith
