-- How great a body's map gets, by how many events it has: no event lasts longer than 172,032 384ths, a double
-- dotted whole note at tempo 256.
-- Within                       so of a map, with values that pairs can set
-- within-still, within-joined, within-passes, within_more   of nothing, of bodies put together, of a greater
--                              number
-- within-small                 at most 1,048,576 events leave a map small
use Prim.Native.Nat.{ℕ, zero, suc, ◌+◌, ◌*◌, ◌≤◌}
use mathlib.Core.Path.{sym, subst}
use Rattle.std.specs.Prelude.{Some, None}
use native.Mathlib.Nat.{suc-mul, le_refl, mul-le-mul}
use native.Mathlib.Omega.{arith}
use Rattle.timemap.specs.declared.TimeMap.{TimeMap}
use Rattle.timemap.specs.Maps.{Left, still, fixed_part, open_part, later, joined, passes}
use Rattle.timemap.specs.Small.{Low, Small}
use Rattle.timemap.specs.Laws.{passes-more}

pub record Within (events : ℕ) (a : TimeMap) : Type 0 where
  pub peak : a.fixed + 256 * (a.tempos + a.utls + a.utvs) ≤ 172032 * events
  pub tempo : Low a.tempo
  pub utl : Low a.utl
  pub utv : Low a.utv

pub within-still : Within 0 still
within-still = record { peak = omega arith; tempo = tt; utl = tt; utv = tt }

-- multiples that a value is set for are no more than at 256
part-bound : (l : Left) (n : ℕ) → Low l → fixed_part l n + 256 * open_part l n ≤ 256 * n
part-bound None n low = omega arith
part-bound (Some v) n low = let e : n * v ≤ n * 256 = mul-le-mul (le_refl n) low in omega arith

low-later : (l m : Left) → Low l → Low m → Low (later l m)
low-later l None p q = p
low-later l (Some v) p q = q

pub within-joined : (w x : ℕ) (a b : TimeMap) → Within w a → Within x b → Within (w + x) (joined a b)
unfolding joined
within-joined w x a b p q =
    record {
      peak = omega (
        arith,
        p.peak,
        q.peak,
        part-bound a.tempo b.tempos p.tempo,
        part-bound a.utl b.utls p.utl,
        part-bound a.utv b.utvs p.utv,
      );
      tempo = low-later a.tempo b.tempo p.tempo q.tempo;
      utl = low-later a.utl b.utl p.utl q.utl;
      utv = low-later a.utv b.utv p.utv q.utv;
    }

pub within_more : (w x : ℕ) (a : TimeMap) → w ≤ x → Within w a → Within x a
within_more w x a h p = record { peak = omega (arith, p.peak); tempo = p.tempo; utl = p.utl; utv = p.utv }

pub within-passes : (n w : ℕ) (b : TimeMap) → Within w b → Within (n * w) (passes n b)
within-passes zero w b p = unfold passes in within_more 0 (0 * w) still (omega arith) within-still
within-passes (suc n) w b p =
    subst (Within (suc n * w)) (sym (passes-more n b))
    (within_more (w + n * w) (suc n * w) _ (omega (arith, suc-mul n w))
    (within-joined w (n * w) b (passes n b) p (within-passes n w b p)))

pub within-small : (w : ℕ) (a : TimeMap) → w ≤ 1048576 → Within w a → Small a
within-small w a h p =
    record {
      sized = record {
        fixed = omega (arith, p.peak);
        tempos = omega (arith, p.peak);
        utls = omega (arith, p.peak);
        utvs = omega (arith, p.peak);
      };
      tempo = p.tempo;
      utl = p.utl;
      utv = p.utv;
    }
