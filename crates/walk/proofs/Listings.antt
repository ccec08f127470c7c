-- Two lists filled in step by a walk: at each pair what is filled so far, before what is still to come, is
-- the window asked for.
-- ListingSoFar                 so, of both lists
-- listing_start, listing-end   before the first pair, and when all cells are filled
-- listing-next                 a pair comes next
-- listing-timed, listing-room, listing-event   what an event may count on, and that it goes by
-- listing_ready, listing_move   the same of any other pair
use Prim.Native.Nat.{ℕ, suc, ◌+◌, ◌-◌, ◌*◌, ◌/◌, ◌<◌, ◌≤◌}
use mathlib.Core.Path.{◌≡◌, refl, ap, ◌∙◌, subst}
use mathlib.Core.List.{List, []}
use Rattle.std.specs.Prelude.{Some, None}
use native.Mathlib.Omega.{arith}
use borrow.Author.Tests.{ltb-false}
use lib.ListN.{length, get_or}
use Rattle.kind.specs.Kinds.{kind_of}
use Rattle.clock.specs.Lengths.{at_start, length_of, values_after}
use Rattle.clock.specs.Running.{jiffies_from, jiffies-from, ByteValues, start-byte-values, byte-values-after, length-bound}
use Rattle.bodies.specs.Bodies as bodies
use Rattle.bodies.specs.Voice.{pairs, pair_at}
use Rattle.bodies.specs.Playing.{played, events_of, walked_of}
use Rattle.bodies.proofs.Cells.{blank}
use Rattle.bodies.proofs.Related.{events-walked}
use Rattle.moves.specs.declared.Move.{Move}
use Rattle.moves.specs.declared.Frame.{Frame}
use Rattle.cells.specs.declared.Cursor.{Cursor}
use Rattle.moves.specs.Moves.{next_of, BoundedMove, Ready, place_after, frames_after}
use Rattle.moves.specs.Noted.{body_in, starts_after}
use Rattle.cells.specs.Window.{filled}
use Rattle.cells.specs.Cells.{cursor_after, cells_after}
use Rattle.cells.proofs.Filling.{Fills, fills_start, fills_step, fills_end, cursor_step, cells-length}
use Rattle.walk.specs.Times.{offsets_of, meanings, jiffies_of}
use Rattle.walk.specs.Bounds.{Listable}
use Rattle.walk.specs.declared.turn.Clock.{Clock}
use Rattle.walk.specs.declared.turn.Turn.{Turn}
use Rattle.walk.specs.Turns.{Timed, turn_of}
use Rattle.walk.proofs.Contexts.{Walking}
use Rattle.walk.proofs.Facts.{Facts, facts}
use Rattle.walk.proofs.Noted.{Noted, noted-start, noted-event, noted_move, noted-body}
use Rattle.walk.proofs.Walks.{walk_start, walk-few, walk-some, walk-event, walk_ready, walk_move}

pub record ListingSoFar (bs : List ℕ) (base first count : ℕ) (os₀ js₀ os js : List ℕ) (frames : List Frame) (starts : List ℕ) (at : ℕ) (now : Clock) (cursor : Cursor) (left : ℕ) : Type 0 where
  pub events : List bodies.Event
  pub walk : Walking bs at frames left events
  pub noted : Noted bs at walk.context starts
  pub offsets : Fills count cursor (offsets_of base events) os (filled first count (offsets_of base (played (pairs bs))) os₀)
  pub jiffies : Fills count cursor (jiffies_from now.time now.values (meanings events)) js (filled first count (jiffies_of (played (pairs bs))) js₀)
  pub offsets-length : length os ≡ length os₀
  pub jiffies-length : length js ≡ length js₀
  pub upto : cursor.filled ≤ count
  pub enough : count - cursor.filled ≤ length events - cursor.skip
  pub byte-values : ByteValues now.values
  pub bounded : now.time + 172032 * length events ≤ 180388626432
  pub facts : Facts bs
  pub short : length bs ≤ 65536
  pub low : base ≤ 65536

pub listing_start : (bs : List ℕ) (base first count walked : ℕ) (os js : List ℕ) → Listable bs base first count walked os js
    → ListingSoFar bs base first count os js os js [] (blank 24) 0 (record { time = 0; values = at_start }) (record { skip = first; filled = 0 }) walked
unfolding jiffies_of events_of
listing_start bs base first count walked os js l =
    let w = walk_start bs walked l.passes l.steps in
    record {
      events = played (pairs bs);
      walk = w.0;
      noted = noted-start bs w.0.context w.1;
      offsets = fills_start first count _ os l.offsets-room;
      jiffies = rw (jiffies-from (meanings (played (pairs bs)))) (fills_start first count _ js l.jiffies-room);
      offsets-length = refl;
      jiffies-length = refl;
      upto = omega arith;
      enough = omega (arith, l.enough);
      byte-values = start-byte-values;
      bounded = omega (arith, events-walked (pairs bs), ltb-false 1048576 (walked_of (pairs bs)) l.passes.limits.1.0);
      facts = facts bs l.passes;
      short = l.short;
      low = l.low;
    }

module _ {bs : List ℕ} {base first count : ℕ} {os₀ js₀ os js : List ℕ} {frames : List Frame} {starts : List ℕ} {at : ℕ} {now : Clock} {cursor : Cursor} {left : ℕ}
    (l : ListingSoFar bs base first count os₀ js₀ os js frames starts at now cursor left) where
  pub listing-end : count ≤ cursor.filled → (os ≡ filled first count (offsets_of base (played (pairs bs))) os₀) × (js ≡ filled first count (jiffies_of (played (pairs bs))) js₀)
  listing-end h = (
    fills_end count cursor _ os _ l.offsets (omega (arith, l.upto)),
    fills_end count cursor _ js _ l.jiffies (omega (arith, l.upto)),
  )

  -- while cells are to be filled
  module _ (h : cursor.filled < count) where
    some_left : 0 < length l.events
    some_left = omega (arith, l.enough)

    pub listing-next : (at < length bs / 2) × (0 < left)
    listing-next = (
      walk-some bs at frames left l.events l.walk some_left,
      omega (arith, walk-few bs at frames left l.events l.walk, some_left),
    )

    pub listing-timed : Timed bs base at now
    listing-timed = record { there = omega (arith, listing-next.0); short = l.short; low = l.low; early = omega (arith, l.bounded) }

    pub listing-room : (cursor.filled < length os) × (cursor.filled < length js)
    listing-room = (omega (arith, l.offsets.room), omega (arith, l.jiffies.room))

    module _ {event : Turn} {os' js' : List ℕ} {cursor' : Cursor} (bytes : (k : ℕ) → get_or bs k 0 < 256) (e : next_of (kind_of (pair_at bs at)) ≡ None)
        (t : event ≡ turn_of base at now (pair_at bs at)) where
      pub listing-event : cursor' ≡ cursor_after cursor → os' ≡ cells_after cursor event.offset os → js' ≡ cells_after cursor event.jiffy js
          → ListingSoFar bs base first count os₀ js₀ os' js' frames starts (at + 1) event.after cursor' (left - 1)
      unfolding offsets_of jiffies_from pair_at
      listing-event ec eo ej =
          let g = walk-event bs at frames left l.events l.walk listing-next.0 e in
          let m = pair_at bs at in
          let time = now.time in
          let values = now.values in
          let size : length l.events ≡ suc (length g.0) = ap length g.1 in
          let moved = cursor_step count (length g.0) cursor h (omega (arith, l.enough)) in
          rw (ec, eo, ej, t)
          record {
            events = g.0;
            walk = g.2.walking;
            noted = noted-event bs at l.walk.context starts l.noted (at + 1) g.2.walking.context e g.2.onward;
            offsets = fills_step count cursor (base + 2 * at) (offsets_of base g.0) os _ (subst (λ (x : List bodies.Event). Fills count cursor (offsets_of base x) os (filled first count (offsets_of base (played (pairs bs))) os₀)) g.1 l.offsets) h;
            jiffies =
                fills_step count cursor (time / 384) (jiffies_from (time + length_of values m) (values_after values m) (meanings g.0)) js _
                (subst (λ (x : List bodies.Event). Fills count cursor (jiffies_from time values (meanings x)) js (filled first count (jiffies_of (played (pairs bs))) js₀)) g.1 l.jiffies) h;
            offsets-length = cells-length cursor _ os ∙ l.offsets-length;
            jiffies-length = cells-length cursor _ js ∙ l.jiffies-length;
            upto = moved.0;
            enough = moved.1;
            byte-values = byte-values-after values (get_or bs (2 * at) 0) (get_or bs (2 * at + 1) 0) (bytes (2 * at)) (bytes (2 * at + 1)) l.byte-values;
            bounded = omega (arith, l.bounded, length-bound values m l.byte-values);
            facts = l.facts;
            short = l.short;
            low = l.low;
          }

    module _ (m : Move) (e : next_of (kind_of (pair_at bs at)) ≡ Some m) (b : BoundedMove m) where
      pub listing_ready : Ready m at frames
      listing_ready = walk_ready bs at frames left l.events l.walk l.short listing-next.0 m e

      pub listing_move : {body : ℕ} {at' : ℕ} {frames' : List Frame} {starts' : List ℕ} → body ≡ body_in m starts → starts' ≡ starts_after m at starts
          → at' ≡ place_after m at body frames → frames' ≡ frames_after m at frames
          → ListingSoFar bs base first count os₀ js₀ os js frames' starts' at' now cursor (left - 1)
      listing_move eb es ep ef =
          let goes = noted-body bs at l.walk.context starts l.noted l.facts listing-next.0 m e in
          let g = walk_move bs at frames left l.events l.walk l.facts listing-next.0 m e b (body_in m starts) goes in
          rw (ep, ef, es, eb)
          record {
            events = l.events;
            walk = g.walking;
            noted = noted_move bs at l.walk.context starts l.noted l.facts listing-next.0 m e b _ g.walking.context g.onward;
            offsets = l.offsets;
            jiffies = l.jiffies;
            offsets-length = l.offsets-length;
            jiffies-length = l.jiffies-length;
            upto = l.upto;
            enough = l.enough;
            byte-values = l.byte-values;
            bounded = l.bounded;
            facts = l.facts;
            short = l.short;
            low = l.low;
          }
