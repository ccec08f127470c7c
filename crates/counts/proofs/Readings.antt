-- A body read in one pass, pair by pair: the loop of the recursive reading.
-- Sum                   its invariant: the counts so far and those of the rest of the body are those of the
--                       whole body
-- sum-start, step, joined, sum-end   its start, a step over a part of the body, one that joins the part's
--                                    counts, and its end
-- running               the counts so far leave room for more
-- event-step, call_step, repeat-step, phrase-step   the steps of each kind of pair
-- deeper, call-deep, repeat-deep, phrase-deep   where the allowance is too small
-- close_end, stop_end   the body closed by a TAL or an END, and by the voice's end
use Prim.Native.Nat.{ℕ, ◌+◌, ◌-◌, ◌/◌, ◌<◌, ◌≤◌, max}
use mathlib.Core.Path.{◌≡◌, refl, sym, ap, ◌∙◌, subst}
use mathlib.Core.List.{List, ◌∷◌}
use native.Mathlib.Omega.{arith}
use lib.ListN.{length, set}
use Rattle.bodies.specs.Voice.{pairs}
use Rattle.bodies.specs.Bodies.{Event, Closer, by_stop, Body, done, event, repeat, phrase, call, inner, outer}
use Rattle.bodies.specs.OnePass.{Read, reading}
use Rattle.bodies.specs.Places.{open_at, body_at}
use Rattle.bodies.proofs.Stored.{open_end}
use Rattle.tally.specs.declared.Counts.{Counts}
use Rattle.counts.specs.declared.Extent.{Extent}
use Rattle.tally.specs.Sums.{join, no_counts, more, passes, standing, again}
use Rattle.counts.specs.Counting.{counting}
use Rattle.tally.specs.Small.{Small, Running, packed_counts}
use Rattle.counts.specs.Measures.{held_in, Cells, read_at, Measurable, Measures}
use Rattle.counts.proofs.Kept.{keep-held}
use Rattle.tally.proofs.Sums.{join_assoc, none_join, more-join, small-join}

pub record Sum (bs cells₀ : List ℕ) (c from : ℕ) (sum : Counts) (at : ℕ) (cells : List ℕ) : Type 0 where
  pub later : from ≤ at
  pub inside : at ≤ length bs / 2 + 1
  pub closes : outer (open_at (pairs bs) at) ≡ outer (open_at (pairs bs) from)
  pub total : join sum (read_at bs (held_in cells) at).total ≡ (read_at bs (held_in cells₀) from).total
  pub phrases : (read_at bs (held_in cells) at).phrases ≡ (read_at bs (held_in cells₀) from).phrases
  pub events : sum.events ≤ 1048577 + at
  pub walked : sum.walked ≤ 1048577 + at
  pub low : sum.depth ≤ c
  pub cells_ready : Cells cells
  pub short : length bs ≤ 65536
  pub allowed : c ≤ 16

-- counts of a body have stopped where they should
none_total : (held : ℕ → Counts) (b : Body) → join no_counts (reading counting held b).total ≡ (reading counting held b).total
unfolding reading join
none_total held (done x) = refl
none_total held (event x r) = none_join _ _
none_total held (repeat n i r) = none_join _ _
none_total held (phrase k i r) = none_join _ _
none_total held (call k r) = none_join _ _

pub sum-start : (bs cells : List ℕ) (c from : ℕ) (sum : Counts) → sum ≡ no_counts → Measurable bs cells c from → Sum bs cells c from sum from cells
unfolding read_at
sum-start bs cells c from sum e r =
    rw e
    record {
      later = omega arith;
      inside = omega (arith, r.inside);
      closes = refl;
      total = none_total (held_in cells) (body_at (pairs bs) from);
      phrases = refl;
      events = omega arith;
      walked = omega arith;
      low = omega arith;
      cells_ready = r.cells_ready;
      short = r.short;
      allowed = r.low;
    }

module _ {bs cells₀ : List ℕ} {c from : ℕ} {sum : Counts} {at : ℕ} {cells : List ℕ} (s : Sum bs cells₀ c from sum at cells) where
  -- at most an event for each pair went without the stop
  pub running : Running sum
  running =
      record {
        events = omega (arith, s.events, s.inside, s.short);
        walked = omega (arith, s.walked, s.inside, s.short);
        depth = omega (arith, s.low, s.allowed);
      }

  -- a part of the body goes by, and then the rest is that of next
  step : (sum' : Counts) (next : ℕ) (cells' : List ℕ) → at < next → next ≤ length bs / 2 + 1
      → outer (open_at (pairs bs) at) ≡ outer (open_at (pairs bs) next)
      → join sum' (read_at bs (held_in cells') next).total ≡ join sum (read_at bs (held_in cells) at).total
      → (read_at bs (held_in cells) at).phrases ≡ (read_at bs (held_in cells') next).phrases
      → sum'.events ≤ 1048577 + next → sum'.walked ≤ 1048577 + next → sum'.depth ≤ c → Cells cells' → Sum bs cells₀ c from sum' next cells'
  step sum' next cells' l i closes total phrases events walked deep ready =
      record {
        later = omega (arith, s.later);
        inside = i;
        closes = sym closes ∙ s.closes;
        total = total ∙ s.total;
        phrases = sym phrases ∙ s.phrases;
        events = events;
        walked = walked;
        low = deep;
        cells_ready = ready;
        short = s.short;
        allowed = s.allowed;
      }

  -- the same where the part's counts are joined
  joined : (sum' part : Counts) (next : ℕ) (cells' : List ℕ) → at < next → next ≤ length bs / 2 + 1
      → outer (open_at (pairs bs) at) ≡ outer (open_at (pairs bs) next)
      → (read_at bs (held_in cells) at).total ≡ join part (read_at bs (held_in cells') next).total
      → (read_at bs (held_in cells) at).phrases ≡ (read_at bs (held_in cells') next).phrases
      → part.depth ≤ c → Cells cells' → sum' ≡ join sum part → Sum bs cells₀ c from sum' next cells'
  joined sum' part next cells' l i closes total phrases deep ready e =
      let small = small-join sum part (omega (arith, s.low, s.allowed)) (omega (arith, s.allowed)) in
      step sum' next cells' l i closes (rw e (join_assoc sum part (read_at bs (held_in cells') next).total ∙ ap (join sum) (sym total))) phrases
      (rw e (omega (arith, small.events))) (rw e (omega (arith, small.walked))) (rw e (unfold join in omega (arith, s.low))) ready

  -- a part of the rest that is too deep makes the whole too deep
  deeper : c < (read_at bs (held_in cells) at).total.depth → c < (read_at bs (held_in cells₀) from).total.depth
  unfolding join
  deeper h = let q : max sum.depth (read_at bs (held_in cells) at).total.depth ≡ (read_at bs (held_in cells₀) from).total.depth = ap (λ (x : Counts). x.depth) s.total in omega arith

  abbrev held : ℕ → Counts
  held = held_in cells

  abbrev next : List Body
  next = open_at (pairs bs) (at + 1)

  -- the body from here on, as its first pair says
  read_as : (b : Body) (bs' : List Body) → open_at (pairs bs) at ≡ b ∷ bs' → read_at bs held at ≡ reading counting held b
  unfolding read_at body_at inner
  read_as b bs' q = rw q

  around : (b : Body) (bs' : List Body) → open_at (pairs bs) at ≡ b ∷ bs' → outer (open_at (pairs bs) at) ≡ bs'
  unfolding outer
  around b bs' q = rw q

  pub event-step : (x : Event) (sum' : Counts) → at < length bs / 2 → open_at (pairs bs) at ≡ event x (inner next) ∷ outer next → sum' ≡ more sum
      → Sum bs cells₀ c from sum' (at + 1) cells
  unfolding reading read_at body_at
  event-step x sum' h q g =
      let r = read_as (event x (inner next)) (outer next) q in
      step sum' (at + 1) cells (omega arith) (omega arith) (around (event x (inner next)) (outer next) q)
      (rw g (more-join sum (read_at bs held (at + 1)).total ∙ ap (λ (y : Read Counts). join sum y.total) (sym r)))
      (ap (λ (y : Read Counts). y.phrases) r) (rw g (omega (arith, s.events))) (rw g (omega (arith, s.walked))) (rw g s.low) s.cells_ready

  pub call_step : (k : ℕ) (kept sum' : Counts) → at < length bs / 2 → open_at (pairs bs) at ≡ call k (inner next) ∷ outer next → kept ≡ held k → kept.depth < c → sum' ≡ join sum (again kept)
      → Sum bs cells₀ c from sum' (at + 1) cells
  unfolding reading read_at body_at
  call_step k kept sum' h q p l g =
      let r = read_as (call k (inner next)) (outer next) q in
      joined sum' (again kept) (at + 1) cells (omega arith) (omega arith) (around (call k (inner next)) (outer next) q)
      (ap (λ (y : Read Counts). y.total) r ∙ ap (λ (x : Counts). join (again x) (reading counting held (inner next)).total) (sym p)) (ap (λ (y : Read Counts). y.phrases) r)
      (omega arith) s.cells_ready g

  pub call-deep : (k : ℕ) (kept : Counts) → open_at (pairs bs) at ≡ call k (inner next) ∷ outer next → kept ≡ held k → c ≤ kept.depth → c < (read_at bs (held_in cells₀) from).total.depth
  unfolding reading join
  call-deep k kept q p l =
      let d : kept.depth ≡ (held k).depth = ap (λ (x : Counts). x.depth) p in
      let r : (read_at bs held at).total.depth ≡ max (1 + (held k).depth) (reading counting held (inner next)).total.depth = ap (λ (y : Read Counts). y.total.depth) (read_as (call k (inner next)) (outer next) q) in
      deeper (omega arith)

  pub repeat-deep : (n : ℕ) → open_at (pairs bs) at ≡ repeat n (inner next) (inner (outer next)) ∷ outer (outer next) → c < 1 + (read_at bs held (at + 1)).total.depth
      → c < (read_at bs (held_in cells₀) from).total.depth
  unfolding reading read_at body_at join
  repeat-deep n q l =
      let b = repeat n (inner next) (inner (outer next)) in
      let r : (read_at bs held at).total.depth ≡ (reading counting held b).total.depth = ap (λ (y : Read Counts). y.total.depth) (read_as b (outer (outer next)) q) in
      deeper (omega arith)

  pub phrase-deep : (k : ℕ) → open_at (pairs bs) at ≡ phrase k (inner next) (inner (outer next)) ∷ outer (outer next) → c < (read_at bs held (at + 1)).total.depth
      → c < (read_at bs (held_in cells₀) from).total.depth
  unfolding reading read_at body_at join
  phrase-deep k q l =
      let b = phrase k (inner next) (inner (outer next)) in
      let r : (read_at bs held at).total.depth ≡ (reading counting held b).total.depth = ap (λ (y : Read Counts). y.total.depth) (read_as b (outer (outer next)) q) in
      deeper (omega arith)

  pub repeat-step : (n : ℕ) (m : Extent) (cells' : List ℕ) (sum' : Counts) → open_at (pairs bs) at ≡ repeat n (inner next) (inner (outer next)) ∷ outer (outer next)
      → 0 < c → Measures bs cells (c - 1) (at + 1) m cells' → sum' ≡ join sum (passes n m.counts) → Sum bs cells₀ c from sum' (m.at + 1) cells'
  unfolding reading read_at body_at
  repeat-step n m cells' sum' q p g h =
      let b = repeat n (inner next) (inner (outer next)) in
      let r = read_as b (outer (outer next)) q in
      joined sum' (passes n m.counts) (m.at + 1) cells' (omega (arith, g.later)) (omega (arith, g.inside)) (around b (outer (outer next)) q ∙ ap outer g.closes)
      (ap (λ (y : Read Counts). y.total) r ∙ rw (g.counts, g.phrases, sym g.closes))
      (ap (λ (y : Read Counts). y.phrases) r ∙ rw (g.phrases, sym g.closes))
      (omega (arith, g.low)) g.cells_ready h

  pub phrase-step : (k : ℕ) (m : Extent) (cells' : List ℕ) (x : ℕ) (sum' : Counts) → open_at (pairs bs) at ≡ phrase k (inner next) (inner (outer next)) ∷ outer (outer next)
      → k < 24 → Measures bs cells c (at + 1) m cells' → x ≡ packed_counts m.counts → sum' ≡ join sum (standing m.counts) → Sum bs cells₀ c from sum' (m.at + 1) (set cells' k x)
  unfolding reading read_at body_at
  phrase-step k m cells' x sum' q few g t h =
      let kept = keep-held cells' k m.counts x g.cells_ready few g.small t in
      let b = phrase k (inner next) (inner (outer next)) in
      let r = read_as b (outer (outer next)) q in
      joined sum' (standing m.counts) (m.at + 1) (set cells' k x) (omega (arith, g.later)) (omega (arith, g.inside)) (around b (outer (outer next)) q ∙ ap outer g.closes)
      (ap (λ (y : Read Counts). y.total) r ∙ rw (kept.0, g.counts, g.phrases, sym g.closes))
      (ap (λ (y : Read Counts). y.phrases) r ∙ rw (kept.0, g.counts, g.phrases, sym g.closes))
      (omega (arith, g.low)) kept.1 h

  -- nothing is left of the body
  sum-end : (sum' : Counts) (p : ℕ) (x : Closer) → sum' ≡ join sum no_counts → inner (open_at (pairs bs) at) ≡ done x → outer (open_at (pairs bs) at) ≡ open_at (pairs bs) (p + 1) → from ≤ p → p ≤ length bs / 2
      → Measures bs cells₀ c from (record { counts = sum'; at = p }) cells
  unfolding reading read_at body_at
  sum-end sum' p x e q o l i =
      let total : (read_at bs held at).total ≡ no_counts = rw q in
      let phrases : (read_at bs held at).phrases ≡ held = rw q in
      record {
        counts = e ∙ ap (join sum) (sym total) ∙ s.total;
        phrases = sym phrases ∙ s.phrases;
        closes = sym s.closes ∙ o;
        later = l;
        inside = i;
        small = subst Small (sym e) (small-join sum no_counts (omega (arith, s.low, s.allowed)) (omega arith));
        low = rw e (unfold join in omega (arith, s.low));
        cells_ready = s.cells_ready;
      }

  pub close_end : (sum' : Counts) (x : Closer) → sum' ≡ join sum no_counts → at < length bs / 2 → open_at (pairs bs) at ≡ done x ∷ next
      → Measures bs cells₀ c from (record { counts = sum'; at = at }) cells
  unfolding inner outer
  close_end sum' x e h q = sum-end sum' at x e (rw q) (rw q) s.later (omega arith)

  pub stop_end : (sum' : Counts) → sum' ≡ join sum no_counts → length bs / 2 ≤ at → from ≤ length bs / 2 → Measures bs cells₀ c from (record { counts = sum'; at = length bs / 2 }) cells
  unfolding inner outer
  stop_end sum' e h l =
      let ended = open_end bs at h in
      let beyond = open_end bs (length bs / 2 + 1) (omega arith) in
      sum-end sum' (length bs / 2) by_stop e (rw ended) (rw (ended, beyond)) l (omega arith)
