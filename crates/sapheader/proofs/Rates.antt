-- A stated number, or another where it is not stated. Assumes nothing.
-- stated_or   by the number if there is one, or at once: the same
use Prim.Native.Nat.{ℕ}
use mathlib.Core.Path.{◌≡◌, refl}
use Rattle.std.specs.Prelude.{Option, Some, None}
use Rattle.std.specs.Option.{unwrap_or}
use Rattle.saptext.specs.declared.Stated.{Stated}
use Rattle.saprules.specs.Against.{value_or}
use Rattle.sapheader.specs.Header.{number_for}

pub stated_or : (s : Option Stated) (other : ℕ) → unwrap_or (number_for s) other ≡ value_or other s
stated_or None other = refl
stated_or (Some s) other = refl
