-- Bounds of maps, for the contracts of the functions that join them: no sum of theirs passes 64 bits.
-- Low     a value left as it was, or at one that a pair can set: at most 256
-- Sized   fixed 384ths up to a bound, and at most 2^30 multiples of each value
-- Small   so with at most 2^40 fixed 384ths, and each value left Low
use Rattle.std.specs.Prelude.{ℕ, ◌≤◌, Some, None}
use Rattle.timemap.specs.declared.TimeMap.{TimeMap}
use Rattle.timemap.specs.Maps.{Left}

abbrev pub Low : Left → Type 0
Low None = Unit
Low (Some v) = v ≤ 256

pub record Sized (bound : ℕ) (a : TimeMap) : Type 0 where
  pub fixed : a.fixed ≤ bound
  pub tempos : a.tempos ≤ 1073741824
  pub utls : a.utls ≤ 1073741824
  pub utvs : a.utvs ≤ 1073741824

pub record Small (a : TimeMap) : Type 0 where
  pub sized : Sized 1099511627776 a
  pub tempo : Low a.tempo
  pub utl : Low a.utl
  pub utv : Low a.utv
