-- TAL and END in a walk: the context, which the walk has kept, says which body they close.
-- differ       no two closers have the same code
-- no-call      outside calls the innermost that is kept is no call
-- tal-step     TAL: one pass more, or on after it
-- end_step     END: on after it where the DEF stands, or after the CAL
use Prim.Native.Nat.{ℕ, ◌+◌, ◌-◌, ◌<◌}
use mathlib.Core.Path.{◌≡◌, refl, ap, ◌∙◌, subst}
use mathlib.Core.Bool.{false}
use mathlib.Core.List.{List, [], ◌∷◌, ◌++◌, append_assoc}
use native.Mathlib.Decide.{dec_lt}
use native.Mathlib.Omega.{arith}
use borrow.Author.Tests.{lt-ltb, le-ltb}
use Rattle.std.specs.Prelude.{Some}
use Rattle.bodies.specs.Voice.{pairs}
use Rattle.bodies.specs.Bodies.{Event, Closer, by_tal, by_end, by_stop, Body, done, outer}
use Rattle.bodies.specs.Playing.{interpret, copies}
use Rattle.bodies.specs.Places.{open_at, body_at}
use Rattle.moves.specs.declared.Frame.{Frame}
use Rattle.moves.specs.Moves.{top, below, tal, tal_frames, end, end_frames}
use Rattle.walk.proofs.Contexts.{Context, outermost, repeating, standing, calling, in_call, Closed, frames_of, topped, Passed, events_in, pairs_in, later, to_walk, BodyFits, OuterFit, Onward, Walking, WalkingOn}
use Rattle.walk.proofs.Steps.{copies-more, times_more, opened}

abbrev pub closer_code : Closer → ℕ
closer_code by_tal = 0
closer_code by_end = 1
closer_code by_stop = 2

pub differ : {c d : Closer} → c ≡ d → closer_code c ≡ closer_code d
differ e = ap closer_code e

-- outside calls the innermost that is kept is no call
no-call : (c : Context) (at : ℕ) → in_call c ≡ false → (end at (frames_of c) ≡ at + 1) × (end_frames (frames_of c) ≡ frames_of c)
no-call outermost at u = (refl, refl)
no-call (repeating h l c) at u =
    let t = topped (frames_of (repeating h l c)) (frames_of c) (Frame.Repeat (h + 1) l) refl in rw t.0 (refl, refl)
no-call (standing c) at u = no-call c at u
no-call (calling p c) at u = absurd (let z : ◌≡◌ {A = ℕ} 0 1 = cc in omega arith)

module _ (bs : List ℕ) (at : ℕ) (frames : List Frame) (left : ℕ) (es : List Event) (w : Walking bs at frames left es) where
  abbrev next : List Body
  next = open_at (pairs bs) (at + 1)

  -- what holds at a pair that closes a body, by its closer
  record Shuts (d : Closer) (c : Context) : Type 0 where
    here : BodyFits bs (done d) c
    around : OuterFit bs next c
    kept : frames ≡ frames_of c
    steps : left ≡ pairs_in bs (done d) + to_walk bs next c
    events : es ≡ events_in bs (done d) ++ later bs next c

  shuts : (d : Closer) → open_at (pairs bs) at ≡ done d ∷ next → Shuts d w.context
  shuts d q =
      let o = opened bs at (done d) next q in
      record {
        here = subst (λ (b : Body). BodyFits bs b w.context) o.0 w.here;
        around = subst (λ (l : List Body). OuterFit bs l w.context) o.1 w.around;
        kept = w.kept;
        steps = w.steps ∙ rw (o.0, o.1);
        events = w.events ∙ rw (o.0, o.1);
      }

  -- the walk goes on after this pair, or at one walked before
  goes_on : (body at' : ℕ) (frames' : List Frame) (c c' : Context) → Onward at body c at' c' → BodyFits bs (body_at (pairs bs) at') c' → OuterFit bs (outer (open_at (pairs bs) at')) c'
      → frames' ≡ frames_of c' → left ≡ 1 + (pairs_in bs (body_at (pairs bs) at') + to_walk bs (outer (open_at (pairs bs) at')) c')
      → es ≡ events_in bs (body_at (pairs bs) at') ++ later bs (outer (open_at (pairs bs) at')) c' → WalkingOn bs at body c at' frames' (left - 1) es
  goes_on body at' frames' c c' onward here around kept steps events =
      record {
        walking = record {
          context = c';
          here = here;
          around = around;
          kept = kept;
          steps = omega arith;
          events = events;
        };
        onward = onward;
      }

  -- TAL closes a repeat
  tal_in : (body : ℕ) (c : Context) → Shuts by_tal c → WalkingOn bs at body c (tal at frames) (tal_frames frames) (left - 1) es
  unfolding Closed OuterFit Passed later to_walk interpret body_at copies
  tal_in body outermost s = absurd (let z : ◌≡◌ {A = ℕ} 2 0 = differ s.here.is-closed in omega arith)
  tal_in body (repeating q l c) s = go (dec_lt 1 l)
    where
      kept : (top frames ≡ Some (Frame.Repeat (q + 1) l)) × (below frames ≡ frames_of c)
      kept = topped frames (frames_of c) (Frame.Repeat (q + 1) l) s.kept

      again : BodyFits bs (body_at (pairs bs) (q + 1)) (repeating q (l - 1) c)
      again = record { is-closed = s.around.3.is-closed; low = s.around.3.low }

      go : Dec (1 < l) → WalkingOn bs at body (repeating q l c) (tal at frames) (tal_frames frames) (left - 1) es
      go (yes m) =
          let a = s.around in
          rw (kept.0, kept.1, lt-ltb 1 l m)
          (goes_on body (q + 1) (frames_of c ++ Frame.Repeat (q + 1) (l - 1) ∷ []) (repeating q l c) (repeating q (l - 1) c) (λ far b n p. (omega (arith, p.0), p)) again
          (rw a.2 (omega arith, omega (arith, a.1), refl, again, a.4, a.5))
          refl
          (rw a.2 (omega (arith, s.steps, times_more (l - 1) (pairs_in bs (body_at (pairs bs) (q + 1)) + 1) (omega arith))))
          (rw a.2 (s.events ∙ rw (copies-more (l - 1) (events_in bs (body_at (pairs bs) (q + 1))) (omega arith)) (simp append_assoc))))
      go (no m) =
          let a = s.around in
          let one : l ≡ 1 = omega (arith, a.0) in
          rw (kept.0, kept.1, le-ltb 1 l (omega arith))
          (goes_on body (at + 1) (frames_of c) (repeating q l c) c (λ far b n p. (omega arith, p.1)) a.4 a.5 refl
          (s.steps ∙ rw one (omega arith))
          (s.events ∙ rw one))
  tal_in body (standing c) s = absurd (let z : ◌≡◌ {A = ℕ} 1 0 = differ s.here.is-closed in omega arith)
  tal_in body (calling q c) s = absurd (let z : ◌≡◌ {A = ℕ} 1 0 = differ s.here.is-closed in omega arith)

  pub tal-step : open_at (pairs bs) at ≡ done by_tal ∷ next → (body : ℕ)
      → WalkingOn bs at body w.context (tal at frames) (tal_frames frames) (left - 1) es
  tal-step q body = tal_in body w.context (shuts by_tal q)

  -- END closes a DEF where it stands, or a call
  end_in_lem : (body : ℕ) (c : Context) → Shuts by_end c → WalkingOn bs at body c (end at frames) (end_frames frames) (left - 1) es
  unfolding Closed OuterFit Passed later to_walk interpret body_at
  end_in_lem body outermost s = absurd (let z : ◌≡◌ {A = ℕ} 2 1 = differ s.here.is-closed in omega arith)
  end_in_lem body (repeating q l c) s = absurd (let z : ◌≡◌ {A = ℕ} 0 1 = differ s.here.is-closed in omega arith)
  end_in_lem body (standing c) s =
      let on = no-call c at s.around.0 in
      rw (s.kept, on.0, on.1)
      (goes_on body (at + 1) (frames_of c) (standing c) c (λ far l b p. (omega arith, p)) s.around.1 s.around.2 refl (omega (arith, s.steps)) s.events)
  end_in_lem body (calling q c) s =
      let kept = topped frames (frames_of c) (Frame.Call (q + 1)) s.kept in
      rw (kept.0, kept.1)
      (goes_on body (q + 1) (frames_of c) (calling q c) c (λ far l b p. (omega (arith, p.0), p.1)) s.around.0 s.around.1 refl
      (omega (arith, s.steps)) s.events)

  pub end_step : open_at (pairs bs) at ≡ done by_end ∷ next → (body : ℕ)
      → WalkingOn bs at body w.context (end at frames) (end_frames frames) (left - 1) es
  end_step q body = end_in_lem body w.context (shuts by_end q)
