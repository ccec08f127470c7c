-- Each pair of a walk that opens something, and an event: what it leaves to be walked and to be played, and
-- that the walk goes on fitting its context.
-- copies-more, times_more   one copy more, one time more
-- opened                    a body and those around it, as the first pair says
-- event-step, repeat-step, phrase-step, call_step   an event, HED, DEF, CAL
use Prim.Native.Nat.{ℕ, zero, suc, ◌+◌, ◌-◌, ◌*◌, ◌<◌}
use mathlib.Core.Path.{◌≡◌, refl, ap, ◌∙◌, subst}
use mathlib.Core.List.{List, [], ◌∷◌, ◌++◌, append_assoc}
use native.Mathlib.Numerals.{sub-one}
use native.Mathlib.Nat.{suc-mul}
use native.Mathlib.Omega.{arith}
use Rattle.bodies.specs.Voice.{pairs}
use Rattle.bodies.specs.Bodies.{Event, Body, event, repeat, phrase, call, inner, outer}
use Rattle.bodies.specs.Playing.{interpret, copies}
use Rattle.bodies.specs.Places.{open_at, body_at}
use Rattle.moves.specs.declared.Frame.{Frame}
use Rattle.walk.proofs.Contexts.{repeating, standing, calling, Closed, Passed, events_in, pairs_in, later, to_walk, BodyFits, OuterFit, Start, Walking, WalkingOn}

pub copies-more : (n : ℕ) (es : List Event) → 0 < n → copies n es ≡ es ++ copies (n - 1) es
unfolding copies
copies-more zero es h = absurd (let z : ⊥ = omega arith in z)
copies-more (suc n) es h = rw (sub-one (suc n))

pub times_more : (n x : ℕ) → 0 < n → n * x ≡ x + (n - 1) * x
times_more zero x h = absurd (let z : ⊥ = omega arith in z)
times_more (suc n) x h = rw (sub-one (suc n)) (omega (arith, suc-mul n x))

pub opened : (bs : List ℕ) (at : ℕ) (b : Body) (rest : List Body) → open_at (pairs bs) at ≡ b ∷ rest → (body_at (pairs bs) at ≡ b) × (outer (open_at (pairs bs) at) ≡ rest)
unfolding body_at inner outer
opened bs at b rest e = (rw e, rw e)

module _ (bs : List ℕ) (at : ℕ) (frames : List Frame) (left : ℕ) (es : List Event) (w : Walking bs at frames left es) where
  abbrev next : List Body
  next = open_at (pairs bs) (at + 1)

  abbrev Then : ℕ → ℕ → List Frame → List Event → Type 0
  Then body at' frames' es' = WalkingOn bs at body w.context at' frames' (left - 1) es'

  -- an event goes by
  pub event-step : (x : Event) → open_at (pairs bs) at ≡ event x (inner next) ∷ outer next
      → (rest : List Event) × (es ≡ x ∷ rest) × Then 0 (at + 1) frames rest
  unfolding interpret Closed body_at
  event-step x q =
      let o = opened bs at (event x (inner next)) (outer next) q in (
        events_in bs (inner next) ++ later bs (outer next) w.context,
        w.events ∙ rw (o.0, o.1),
        record {
          walking = record {
            context = w.context;
            here = let h = subst (λ (b : Body). BodyFits bs b w.context) o.0 w.here in record { is-closed = h.is-closed; low = h.low };
            around = subst (λ (l : List Body). OuterFit bs l w.context) o.1 w.around;
            kept = w.kept;
            steps = let s : left ≡ pairs_in bs (event x (inner next)) + to_walk bs (outer next) w.context = w.steps ∙ rw (o.0, o.1) in omega arith;
            events = refl;
          };
          onward = λ far l b p. (omega arith, p);
        },
      )

  -- HED n: its body comes next, for the first of n passes
  pub repeat-step : (n : ℕ) → open_at (pairs bs) at ≡ repeat n (inner next) (inner (outer next)) ∷ outer (outer next) → 0 < n → n < 256
      → (body : ℕ) → Then body (at + 1) (frames ++ Frame.Repeat (at + 1) n ∷ []) es
  unfolding interpret Closed body_at OuterFit Passed later to_walk
  repeat-step n q some few body =
      let o = opened bs at (repeat n (inner next) (inner (outer next))) (outer (outer next)) q in
      let h = subst (λ (b : Body). BodyFits bs b w.context) o.0 w.here in
      let a = subst (λ (l : List Body). OuterFit bs l w.context) o.1 w.around in
      record {
        walking = record {
          context = repeating at n w.context;
          here = record { is-closed = h.is-closed.0; low = omega (arith, h.low) };
          around = (
            some,
            few,
            refl,
            record { is-closed = h.is-closed.0; low = omega (arith, h.low) },
            record { is-closed = h.is-closed.1; low = omega (arith, h.low) },
            a,
          );
          kept = ap (λ (fs : List Frame). fs ++ Frame.Repeat (at + 1) n ∷ []) w.kept;
          steps =
              let s : left ≡ pairs_in bs (repeat n (inner next) (inner (outer next))) + to_walk bs (outer (outer next)) w.context = w.steps ∙ rw (o.0, o.1) in
              omega (arith, times_more n (pairs_in bs (inner next) + 1) some);
          events = w.events ∙ rw (o.0, o.1, copies-more n (events_in bs (inner next)) some) (simp append_assoc);
        };
        onward = λ far l b p. (omega arith, (l, p));
      }

  -- DEF k: its body comes next, where it stands
  pub phrase-step : (k : ℕ) → open_at (pairs bs) at ≡ phrase k (inner next) (inner (outer next)) ∷ outer (outer next) → (body : ℕ) → Then body (at + 1) frames es
  unfolding interpret Closed body_at OuterFit Passed later to_walk
  phrase-step k q body =
      let o = opened bs at (phrase k (inner next) (inner (outer next))) (outer (outer next)) q in
      let h = subst (λ (b : Body). BodyFits bs b w.context) o.0 w.here in
      let a = subst (λ (l : List Body). OuterFit bs l w.context) o.1 w.around in
      record {
        walking = record {
          context = standing w.context;
          here = record { is-closed = h.is-closed.1; low = omega (arith, h.low) };
          around = (h.is-closed.0, record { is-closed = h.is-closed.2; low = omega (arith, h.low) }, a);
          kept = w.kept;
          steps =
              let s : left ≡ pairs_in bs (phrase k (inner next) (inner (outer next))) + to_walk bs (outer (outer next)) w.context = w.steps ∙ rw (o.0, o.1) in
              omega arith;
          events = w.events ∙ rw (o.0, o.1) (simp append_assoc);
        };
        onward = λ far l b p. (omega arith, p);
      }

  -- CAL k: the body that it stands for comes next, wherever that begins
  pub call_step : (k : ℕ) → open_at (pairs bs) at ≡ call k (inner next) ∷ outer next → (body : ℕ) → Start bs k body
      → Then body body (frames ++ Frame.Call (at + 1) ∷ []) es
  unfolding interpret Closed body_at OuterFit Passed later to_walk
  call_step k q body n =
      let o = opened bs at (call k (inner next)) (outer next) q in
      let h = subst (λ (b : Body). BodyFits bs b w.context) o.0 w.here in
      let a = subst (λ (l : List Body). OuterFit bs l w.context) o.1 w.around in
      record {
        walking = record {
          context = calling at w.context;
          here = record { is-closed = n.is-closed; low = omega (arith, h.low, n.depth) };
          around = (record { is-closed = h.is-closed; low = omega (arith, h.low) }, a);
          kept = ap (λ (fs : List Frame). fs ++ Frame.Call (at + 1) ∷ []) w.kept;
          steps =
              let s : left ≡ pairs_in bs (call k (inner next)) + to_walk bs (outer next) w.context = w.steps ∙ rw (o.0, o.1) in
              omega (arith, n.steps);
          events = w.events ∙ rw (o.0, o.1, n.events) (simp append_assoc);
        };
        onward = λ far l b p. (b, (l, p));
      }
