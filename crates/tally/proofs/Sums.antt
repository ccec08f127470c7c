-- Counts added up: laws of join, and bounds.
-- product                 n passes over a body fit their number
-- join_assoc, none_join   join is a sum that stops at the cap
-- more-join               where the stop comes later, an event added without it is an event joined
-- small-join              what it gives is small again
-- unpacked_packed         counts in one number come back as they were
use Prim.Native.Nat.{ℕ, ◌*◌, ◌<◌, ◌≤◌}
use mathlib.Core.Path.{◌≡◌}
use native.Mathlib.Nat.{mul-le-mul}
use native.Mathlib.Omega.{arith}
use Rattle.tally.specs.declared.Counts.{Counts}
use Rattle.tally.specs.Sums.{join, no_counts, single, more}
use Rattle.tally.specs.Small.{Small, packed_counts, unpacked_counts}

pub product : (n x : ℕ) → n < 256 → x ≤ 1048578 → n * x ≤ 267387390
product n x h g =
    let a : n ≤ 255 = omega arith in
    let e : n * x ≤ 255 * 1048578 = mul-le-mul a g in
    omega arith

pub same_counts : (a b : Counts) → a.events ≡ b.events → a.walked ≡ b.walked → a.depth ≡ b.depth → a ≡ b
same_counts a b e w d = λ i. record { events = e i; walked = w i; depth = d i }

pub join_assoc : (a b c : Counts) → join (join a b) c ≡ join a (join b c)
unfolding join
join_assoc a b c = same_counts (join (join a b) c) (join a (join b c)) (omega arith) (omega arith) (omega arith)

pub none_join : (a b : Counts) → join no_counts (join a b) ≡ join a b
unfolding join
none_join a b = same_counts (join no_counts (join a b)) (join a b) (omega arith) (omega arith) (omega arith)

pub more-join : (a b : Counts) → join (more a) b ≡ join a (join single b)
unfolding join
more-join a b = same_counts (join (more a) b) (join a (join single b)) (omega arith) (omega arith) (omega arith)

pub small-join : (a b : Counts) → a.depth ≤ 16 → b.depth ≤ 16 → Small (join a b)
unfolding join
small-join a b h g = record { events = omega arith; walked = omega arith; depth = omega arith }

pub unpacked_packed : (c : Counts) → Small c → unpacked_counts (packed_counts c) ≡ c
unpacked_packed c s =
    same_counts (unpacked_counts (packed_counts c)) c (omega (arith, s.events, s.walked, s.depth)) (omega (arith, s.events, s.walked, s.depth)) (omega (arith, s.depth))
