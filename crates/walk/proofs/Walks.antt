-- A walk from its first pair on: all events of the played-out voice are still to come; each pair leaves one
-- less to walk, an event one less to play.
-- kind_in, move_kind       a move by the pair that makes it
-- walk_start              before the first pair, with nothing in progress
-- few-later               no more events are to come than pairs are to be walked
-- walk-some               where an event is still to come, a pair comes next
-- walk-event              an event goes by
-- walk_ready, walk_move   any other pair: what its move may count on, and where the walk goes on, a CAL at
--                         the body that it is given
use Prim.Native.Nat.{ℕ, ◌+◌, ◌-◌, ◌/◌, ◌<◌, ◌≤◌}
use mathlib.Core.Path.{◌≡◌, refl, sym, ap, ◌∙◌}
use mathlib.Core.List.{List, [], ◌∷◌, ◌++◌, append-nil}
use native.Mathlib.Decide.{dec_lt}
use native.Mathlib.Omega.{arith}
use borrow.Author.Tests.{ltb-false}
use lib.ListN.{length, length-append}
use Rattle.std.specs.Prelude.{Some, None}
use Rattle.kind.specs.declared.Kind.{Kind}
use Rattle.kind.specs.Kinds.{kind_of}
use Rattle.bodies.specs.Voice.{pairs, pair_at}
use Rattle.bodies.specs.Bodies as bodies
use Rattle.bodies.specs.Bodies.{by_stop, Body, done, repeat, call, inner, outer, event_at, body_of}
use Rattle.bodies.specs.Playing.{interpret, phrases_of, copies, playing, walking, played, walked_of, depth_of}
use Rattle.bodies.specs.Places.{open_at, body_at}
use Rattle.bodies.proofs.Related.{related, related-phrases, length-copies, few, fewer}
use Rattle.bodies.proofs.Stored.{open_end, event_at_lem, hlt_at, bad_at, hed_at, tal_at, def_at, end_at, cal_at}
use Rattle.mus.specs.Acceptance.{Passes}
use Rattle.mus.proofs.Accepted.{accepted-sound}
use Rattle.moves.specs.declared.Move.{Move}
use Rattle.moves.specs.declared.Move.TheVariants.{Repeat, Phrase, Call, Tal, End}
use Rattle.moves.specs.declared.Frame.{Frame}
use Rattle.moves.specs.Moves.{next_of, BoundedMove, Room, Ready, place_after, frames_after}
use Rattle.walk.proofs.Contexts.{Context, outermost, repeating, standing, calling, height, closer_of, Closed, shut-closed, frames-length, Passed, events_in, pairs_in, later, to_walk, OuterFit, Goes, Walking, WalkingOn}
use Rattle.walk.proofs.Facts.{Facts}
use Rattle.walk.proofs.Steps.{event-step, repeat-step, phrase-step, call_step, opened}
use Rattle.walk.proofs.Closing.{differ, tal-step, end_step}

-- the kind of the pair that makes a move
abbrev pub kind_in : Move → Kind
kind_in (Repeat n) = Kind.Hed n
kind_in (Phrase k) = Kind.Def k
kind_in (Call k) = Kind.Cal k
kind_in Tal = Kind.Tal
kind_in End = Kind.End

pub move_kind : (z : Kind) (m : Move) → next_of z ≡ Some m → z ≡ kind_in m
move_kind z m e = go z e
  where
    no-event : None ≡ Some m → ⊥
    no-event q = let z : ◌≡◌ {A = ℕ} 0 1 = cc in omega arith

    by : (x : Move) → Some x ≡ Some m → kind_in x ≡ kind_in m
    by x q = let same : x ≡ m = cc in ap kind_in same

    go : (z : Kind) → next_of z ≡ Some m → z ≡ kind_in m
    go Kind.Event q = absurd (no-event q)
    go (Kind.Hed n) q = by (Repeat n) q
    go Kind.Tal q = by Tal q
    go (Kind.Def k) q = by (Phrase k) q
    go Kind.End q = by End q
    go (Kind.Cal k) q = by (Call k) q
    go Kind.Hlt q = absurd (no-event q)
    go (Kind.Bad n) q = absurd (no-event q)

module _ (bs : List ℕ) where
  pub walk_start : (left : ℕ) → Passes (pairs bs) → left ≡ walked_of (pairs bs) → (w : Walking bs 0 [] left (played (pairs bs))) × Passed 0 w.context
  unfolding OuterFit Passed later to_walk played walked_of depth_of open_at body_at body_of
  walk_start left p e =
      let s = accepted-sound (pairs bs) p in (
        record {
          context = outermost;
          here = record { is-closed = shut-closed by_stop (body_of (pairs bs)) s.shut; low = omega (arith, ltb-false 16 (depth_of (pairs bs)) p.limits.0) };
          around = tt;
          kept = refl;
          steps = e ∙ omega arith;
          events = sym (append-nil _);
        },
        tt,
      )

  few-events : (b : Body) → length (events_in bs b) ≤ pairs_in bs b
  few-events b =
      related playing walking (λ es w. length es ≤ w) fewer (phrases_of playing (pairs bs)) (phrases_of walking (pairs bs))
      (λ k. related-phrases playing walking (λ es w. length es ≤ w) fewer (λ j. []) (λ j. 0) (λ j. omega arith) (body_of (pairs bs)) k) b

  few-later : (around : List Body) (c : Context) → length (later bs around c) ≤ to_walk bs around c
  unfolding later to_walk
  few-later around outermost = omega arith
  few-later around (repeating h l c) =
      let b = body_at (pairs bs) (h + 1) in
      let one = length-append (copies (l - 1) (events_in bs b)) (events_in bs (inner around) ++ later bs (outer around) c) in
      let two = length-append (events_in bs (inner around)) (later bs (outer around) c) in
      omega (arith, one, two, length-copies (l - 1) (events_in bs b), few (l - 1) (length (events_in bs b)) (pairs_in bs b) (few-events b), few-events (inner around), few-later (outer around) c)
  few-later around (standing c) =
      omega (arith, length-append (events_in bs (inner around)) (later bs (outer around) c), few-events (inner around), few-later (outer around) c)
  few-later around (calling p c) =
      let b = body_at (pairs bs) (p + 1) in
      let o = outer (open_at (pairs bs) (p + 1)) in
      omega (arith, length-append (events_in bs b) (later bs o c), few-events b, few-later o c)

  module _ (at : ℕ) (frames : List Frame) (left : ℕ) (es : List bodies.Event) (w : Walking bs at frames left es) where
    pub walk-few : length es ≤ left
    walk-few =
        let b = body_at (pairs bs) at in
        let o = outer (open_at (pairs bs) at) in
        omega (arith, w.steps, ap length w.events, length-append (events_in bs b) (later bs o w.context), few-events b, few-later o w.context)

    -- after the last pair nothing is in progress
    ended : (c : Context) → closer_of c ≡ by_stop → later bs [] c ≡ []
    unfolding later
    ended outermost e = refl
    ended (repeating h l c) e = absurd (let z : ◌≡◌ {A = ℕ} 0 2 = differ e in omega arith)
    ended (standing c) e = absurd (let z : ◌≡◌ {A = ℕ} 1 2 = differ e in omega arith)
    ended (calling p c) e = absurd (let z : ◌≡◌ {A = ℕ} 1 2 = differ e in omega arith)

    none_left : length bs / 2 ≤ at → es ≡ []
    unfolding inner outer body_at Closed interpret
    none_left h =
        let q = open_end bs at h in
        let is-closed : closer_of w.context ≡ by_stop = rw q at w.here.is-closed in
        w.events ∙ rw q (ended w.context is-closed)

    pub walk-some : 0 < length es → at < length bs / 2
    walk-some s = go (dec_lt at (length bs / 2))
      where
        go : Dec (at < length bs / 2) → at < length bs / 2
        go (yes p) = p
        go (no p) = absurd (let z : length es ≡ 0 = ap length (none_left (omega arith)) in omega arith)

    pub walk-event : at < length bs / 2 → next_of (kind_of (pair_at bs at)) ≡ None
        → (rest : List bodies.Event) × (es ≡ event_at at (pair_at bs at) ∷ rest) × WalkingOn bs at 0 w.context (at + 1) frames (left - 1) rest
    walk-event i e = go (kind_of (pair_at bs at)) refl e
      where
        other : {m : Move} → Some m ≡ None → ⊥
        other q = let z : ◌≡◌ {A = ℕ} 0 1 = cc in omega arith

        go : (z : Kind) → kind_of (pair_at bs at) ≡ z → next_of z ≡ None
            → (rest : List bodies.Event) × (es ≡ event_at at (pair_at bs at) ∷ rest) × WalkingOn bs at 0 w.context (at + 1) frames (left - 1) rest
        go Kind.Event q n = event-step bs at frames left es w _ (event_at_lem bs at i q)
        go (Kind.Hed k) q n = absurd (other n)
        go Kind.Tal q n = absurd (other n)
        go (Kind.Def k) q n = absurd (other n)
        go Kind.End q n = absurd (other n)
        go (Kind.Cal k) q n = absurd (other n)
        go Kind.Hlt q n = event-step bs at frames left es w _ (hlt_at bs at i q)
        go (Kind.Bad b) q n = event-step bs at frames left es w _ (bad_at bs at i b q)

    walk-deep : length frames ≡ height w.context
    walk-deep = ap length w.kept ∙ frames-length w.context

    -- one more may be in progress
    repeat-room : (n : ℕ) (i r : Body) (rest : List Body) → open_at (pairs bs) at ≡ repeat n i r ∷ rest → length frames < 16
    unfolding interpret
    repeat-room n i r rest q = omega (arith, rw (opened bs at (repeat n i r) rest q).0 at w.here.low, walk-deep)

    call-room : (k : ℕ) (r : Body) (rest : List Body) → open_at (pairs bs) at ≡ call k r ∷ rest → length frames < 16
    unfolding interpret
    call-room k r rest q = omega (arith, rw (opened bs at (call k r) rest q).0 at w.here.low, walk-deep)

    -- what a move may count on
    room : at < length bs / 2 → (m : Move) → kind_of (pair_at bs at) ≡ kind_in m → Room m (length frames)
    room i (Repeat n) e = repeat-room n _ _ _ (hed_at bs at i n e)
    room i (Phrase k) e = tt
    room i (Call k) e = call-room k _ _ (cal_at bs at i k e)
    room i Tal e = tt
    room i End e = tt

    -- where it leads
    moved : Facts bs → at < length bs / 2 → (m : Move) → kind_of (pair_at bs at) ≡ kind_in m → BoundedMove m → (body : ℕ) → Goes bs m body
        → WalkingOn bs at body w.context (place_after m at body frames) (frames_after m at frames) (left - 1) es
    unfolding place_after frames_after
    moved f i (Repeat n) e b body g = repeat-step bs at frames left es w n (hed_at bs at i n e) (f.hed at n i e) b body
    moved f i (Phrase k) e b body g = phrase-step bs at frames left es w k (def_at bs at i k e) body
    moved f i (Call k) e b body g = call_step bs at frames left es w k (cal_at bs at i k e) body g
    moved f i Tal e b body g = tal-step bs at frames left es w (tal_at bs at i e) body
    moved f i End e b body g = end_step bs at frames left es w (end_at bs at i e) body

    pub walk_ready : length bs ≤ 65536 → at < length bs / 2 → (m : Move) → next_of (kind_of (pair_at bs at)) ≡ Some m → Ready m at frames
    walk_ready s i m e = record { few = omega arith; low = omega (arith, w.here.low, walk-deep); room = room i m (move_kind _ m e) }

    pub walk_move : Facts bs → at < length bs / 2 → (m : Move) → next_of (kind_of (pair_at bs at)) ≡ Some m → BoundedMove m → (body : ℕ) → Goes bs m body
        → WalkingOn bs at body w.context (place_after m at body frames) (frames_after m at frames) (left - 1) es
    walk_move f i m e b body g = moved f i m (move_kind _ m e) b body g
