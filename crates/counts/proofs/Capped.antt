-- The stop at 1,048,577 never shows: what is counted is the defined count, up to there.
-- cap_mul                      n times a count, with the stop
-- events-related, walked-related, depth-related   what is counted of a body and the definitions
-- total-voice                  the reading of a whole voice in one pass
-- total-events, total-walked, total-depth   its counts and the definitions
-- too_deep_lem, too_long_lem, within   what follows for 32, for 33 and for what is reported
use Prim.Native.Nat.{ℕ, zero, suc, ◌+◌, ◌*◌, ◌<◌, ◌≤◌}
use mathlib.Core.Path.{◌≡◌, refl, ap, ◌∙◌}
use mathlib.Core.Bool.{false}
use mathlib.Core.List.{List}
use native.Mathlib.Nat.{mul-le-mul_right, one-mul, zero-mul}
use native.Mathlib.Decide.{dec_lt}
use native.Mathlib.Omega.{arith}
use lib.Dec.{ltb}
use borrow.Author.Tests.{lt-ltb, le-ltb}
use lib.ListN.{length, length-append}
use Rattle.meaning.specs.declared.Meaning.{Meaning}
use Rattle.refusals.specs.Numbers.{Outcome}
use Rattle.bodies.specs.Voice.{pairs}
use Rattle.bodies.specs.Bodies.{body_of}
use Rattle.bodies.specs.Playing.{of_voice, copies, playing, walking, nesting, played, events_of, walked_of, depth_of}
use Rattle.bodies.specs.Order.{Sound}
use Rattle.bodies.specs.OnePass.{reading}
use Rattle.bodies.specs.Places.{open_at, body_at}
use Rattle.bodies.proofs.Related.{Relation, related-voice, length-copies, events-walked}
use Rattle.bodies.proofs.OnePass.{one_pass_voice}
use Rattle.tally.specs.declared.Counts.{Counts}
use Rattle.counts.specs.declared.Extent.{Extent}
use Rattle.std.specs.Prelude.{Err}
use Rattle.refusals.specs.declared.Reason.TheVariants.{TooDeep, TooLong}
use Rattle.tally.specs.Sums.{cap, join}
use Rattle.counts.specs.Counting.{counting}
use Rattle.counts.specs.Measures.{held_in, read_at, Measures}
use Rattle.counts.specs.Limits.{Within, count_outcome}
use Rattle.bodies.proofs.Cells.{blank}
use Rattle.counts.proofs.Kept.{none_held}

pub cap_mul : (n x y : ℕ) → cap x ≡ cap y → cap (n * x) ≡ cap (n * y)
cap_mul zero x y e = rw (zero-mul x, zero-mul y)
cap_mul (suc n) x y e = go (dec_lt x 1048577)
  where
    above : (z : ℕ) → z ≤ suc n * z
    above z = let h : 0 < suc n = omega arith in rw (one-mul z) at (mul-le-mul_right z h)

    go : Dec (x < 1048577) → cap (suc n * x) ≡ cap (suc n * y)
    go (yes l) = let q : x ≡ y = omega arith in rw q
    go (no l) = omega (arith, above x, above y)

events-related : Relation counting playing (λ c es. c.events ≡ cap (length es))
unfolding join
events-related =
    record {
      nothing = refl;
      plain = λ e a b h. omega arith;
      repeated = λ t a c b d h g.
          let m : cap (t * a.events) ≡ cap (t * length b) = cap_mul t a.events (length b) (omega arith) in
          omega (arith, length-append (copies t b) d, length-copies t b);
      defined = λ a c b d h g. omega (arith, length-append b d);
      called = λ a c b d h g. omega (arith, length-append b d);
    }

walked-related : Relation counting walking (λ c w. c.walked ≡ cap w)
unfolding join
walked-related =
    record {
      nothing = refl;
      plain = λ e a b h. omega arith;
      repeated = λ t a c b d h g.
          let m : cap (t * (a.walked + 1)) ≡ cap (t * (b + 1)) = cap_mul t (a.walked + 1) (b + 1) (omega arith) in
          omega arith;
      defined = λ a c b d h g. omega arith;
      called = λ a c b d h g. omega arith;
    }

depth-related : Relation counting nesting (λ c d. c.depth ≡ d)
unfolding join
depth-related =
    record {
      nothing = refl;
      plain = λ e a b h. omega arith;
      repeated = λ t a c b d h g. omega arith;
      defined = λ a c b d h g. omega arith;
      called = λ a c b d h g. omega arith;
    }

-- the reading of a whole voice, from cells that hold nothing
module _ (bs : List ℕ) (s : Sound (pairs bs)) where
  abbrev v : List (Outcome Meaning)
  v = pairs bs

  abbrev total : Counts
  total = (read_at bs (held_in (blank 24)) 0).total

  total-voice : total ≡ of_voice counting v
  unfolding read_at body_at open_at body_of
  total-voice = ap (λ (held : ℕ → Counts). (reading counting held (body_of v)).total) none_held ∙ one_pass_voice counting v s

  total-events : total.events ≡ cap (events_of v)
  unfolding events_of played
  total-events = ap (λ (c : Counts). c.events) total-voice ∙ related-voice counting playing (λ c es. c.events ≡ cap (length es)) events-related v

  total-walked : total.walked ≡ cap (walked_of v)
  unfolding walked_of
  total-walked = ap (λ (c : Counts). c.walked) total-voice ∙ related-voice counting walking (λ c w. c.walked ≡ cap w) walked-related v

  total-depth : total.depth ≡ depth_of v
  unfolding depth_of
  total-depth = ap (λ (c : Counts). c.depth) total-voice ∙ related-voice counting nesting (λ c d. c.depth ≡ d) depth-related v

  pub too_deep_lem : 16 < total.depth → Err TooDeep ≡ count_outcome v
  too_deep_lem h = rw (lt-ltb 16 (depth_of v) (omega (arith, total-depth)))

  module _ (m : Extent) (cells : List ℕ) (g : Measures bs (blank 24) 16 0 m cells) where
    shallow : ltb 16 (depth_of v) ≡ false
    shallow = le-ltb 16 (depth_of v) (let q = ap (λ (c : Counts). c.depth) g.counts in omega (arith, total-depth, g.low))

    pub too_long_lem : (m.counts.walked ≤ 1048576 → ⊥) → Err TooLong ≡ count_outcome v
    too_long_lem h =
        let q = ap (λ (c : Counts). c.walked) g.counts in
        rw (shallow, lt-ltb 1048576 (walked_of v) (omega (arith, total-walked)))

    pub within : m.counts.walked ≤ 1048576 → Within m.counts.events m.counts.walked ≡ count_outcome v
    within h =
        let q = ap (λ (c : Counts). c.walked) g.counts in
        let p = ap (λ (c : Counts). c.events) g.counts in
        let walked : m.counts.walked ≡ walked_of v = omega (arith, total-walked) in
        let events : m.counts.events ≡ events_of v = omega (arith, total-events, total-walked, events-walked v) in
        rw (shallow, le-ltb 1048576 (walked_of v) (omega arith), events, walked)
