-- A map and a pair after it: what changes.
-- joined-tempos, joined-utls, joined-utvs   a note by one of the three values
-- joined-left                               a command
use Prim.Native.Nat.{ℕ}
use mathlib.Core.Path.{◌≡◌, refl}
use native.Mathlib.Omega.{arith}
use Rattle.timemap.specs.declared.TimeMap.{TimeMap}
use Rattle.timemap.specs.Maps.{Left, fixed_part, open_part, later, under, plus, joined}
use Rattle.timemap.specs.Laws.{same_map, fixed_none, open_none}
use Rattle.pairmap.specs.Pairs.{multiples, leaving, more, left_at}

module _ (a : TimeMap) where
  tempo_none : fixed_part a.tempo 0 ≡ 0
  tempo_none = fixed_none a.tempo

  utl_none : fixed_part a.utl 0 ≡ 0
  utl_none = fixed_none a.utl

  utv_none : fixed_part a.utv 0 ≡ 0
  utv_none = fixed_none a.utv

  module _ (n : ℕ) where
    pub joined-tempos : more a (fixed_part a.tempo n) (open_part a.tempo n) 0 0 ≡ joined a (multiples n 0 0)
    unfolding joined
    joined-tempos =
        same_map (more a (fixed_part a.tempo n) (open_part a.tempo n) 0 0) (plus a 1 (under a (multiples n 0 0)))
        (omega (arith, utl_none, utv_none)) (omega arith) (omega (arith, open_none a.utl))
        (omega (arith, open_none a.utv)) refl refl refl

    pub joined-utls : more a (fixed_part a.utl n) 0 (open_part a.utl n) 0 ≡ joined a (multiples 0 n 0)
    unfolding joined
    joined-utls =
        same_map (more a (fixed_part a.utl n) 0 (open_part a.utl n) 0) (plus a 1 (under a (multiples 0 n 0)))
        (omega (arith, tempo_none, utv_none)) (omega (arith, open_none a.tempo)) (omega arith)
        (omega (arith, open_none a.utv)) refl refl refl

    pub joined-utvs : more a (fixed_part a.utv n) 0 0 (open_part a.utv n) ≡ joined a (multiples 0 0 n)
    unfolding joined
    joined-utvs =
        same_map (more a (fixed_part a.utv n) 0 0 (open_part a.utv n)) (plus a 1 (under a (multiples 0 0 n)))
        (omega (arith, tempo_none, utl_none)) (omega (arith, open_none a.tempo)) (omega (arith, open_none a.utl))
        (omega arith) refl refl refl

  pub joined-left : (t l v : Left)
      → left_at a (later a.tempo t) (later a.utl l) (later a.utv v) ≡ joined a (leaving t l v)
  unfolding joined
  joined-left t l v =
      same_map (left_at a (later a.tempo t) (later a.utl l) (later a.utv v)) (plus a 1 (under a (leaving t l v)))
      (omega (arith, tempo_none, utl_none, utv_none)) (omega (arith, open_none a.tempo))
      (omega (arith, open_none a.utl)) (omega (arith, open_none a.utv))
      refl refl refl
