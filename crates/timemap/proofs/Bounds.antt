-- Maps added up: bounds of the sums.
-- fixed-bound    what multiples come to where a body sets the value
-- under-sized    a body by the values before the body that comes before it
-- product        multiples of a value fit their number
-- many           and so do n passes
-- passes-some    a pass, and n - 1 passes by what it leaves
use Prim.Native.Nat.{ℕ, zero, suc, ◌-◌, ◌*◌, ◌<◌, ◌≤◌}
use mathlib.Core.Path.{◌≡◌}
use native.Mathlib.Nat.{mul-le-mul, not-suc-le-zero}
use native.Mathlib.Omega.{arith}
use Rattle.std.specs.Prelude.{Some, None}
use Rattle.timemap.specs.declared.TimeMap.{TimeMap}
use Rattle.timemap.specs.Maps.{Left, fixed_part, open_part, under, plus, passes}
use Rattle.timemap.specs.Small.{Low, Sized, Small}

pub fixed-bound : (l : Left) (n : ℕ) → Low l → n ≤ 1073741824 → fixed_part l n ≤ 274877906944
fixed-bound None n low h = omega arith
fixed-bound (Some v) n low h = let e : n * v ≤ 1073741824 * 256 = mul-le-mul h low in omega arith

open_bound : (l : Left) (n : ℕ) → open_part l n ≤ n
open_bound None n = omega arith
open_bound (Some v) n = omega arith

pub under-sized : (a b : TimeMap) → Small a → Small b → Sized 2199023255552 (under a b)
under-sized a b s t =
    let u = t.sized in
    record {
      fixed = omega (
        arith,
        u.fixed,
        fixed-bound a.tempo b.tempos s.tempo u.tempos,
        fixed-bound a.utl b.utls s.utl u.utls,
        fixed-bound a.utv b.utvs s.utv u.utvs,
      );
      tempos = omega (arith, u.tempos, open_bound a.tempo b.tempos);
      utls = omega (arith, u.utls, open_bound a.utl b.utls);
      utvs = omega (arith, u.utvs, open_bound a.utv b.utvs);
    }

pub product : (n x : ℕ) → n ≤ 1073741824 → x ≤ 65535 → n * x ≤ 70368744177664
product n x h g = let e : n * x ≤ 1073741824 * 65535 = mul-le-mul h g in omega arith

pub many : (n x : ℕ) → n < 256 → x ≤ 2199023255552 → n * x ≤ 4611686018427387904
many n x h g =
    let low : n ≤ 255 = omega arith in
    let e : n * x ≤ 255 * 2199023255552 = mul-le-mul low g in omega arith

pub passes-some : (n : ℕ) (b : TimeMap) → 0 < n → plus b (n - 1) (under b b) ≡ passes n b
unfolding passes
passes-some zero b h = absurd (not-suc-le-zero h)
passes-some (suc n) b h = let e : suc n - 1 ≡ n = omega arith in rw e
