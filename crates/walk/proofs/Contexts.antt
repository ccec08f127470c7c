-- The middle of a walk: what is in progress around the pair that comes next, and what is still to be walked
-- and to be played.
-- Context                      the repeats, DEFs where they stand and calls in progress, innermost first: a
--                              repeat with the number of its HED and the passes that are left, this one
--                              included, a call with the number of its CAL
-- height                       how many of them are repeats and calls; these the walk keeps
-- in_call, closer_of             whether a call is among them; what closes the innermost
-- Closed                       a body with that closer, and in a call no DEF in it
-- shut-closed, flat-closed     from acceptance
-- events_in, pairs_in, depth_in   what is made of a body of a voice
-- later, to_walk                the events and the pairs after the body that is being walked, by the bodies
--                              that are open around it
-- BodyFits, OuterFit           the body that is being walked, and those around it, fit their context
-- frames_of, frames-length     the frames that the walk keeps of a context, and how many
-- topped                       the innermost of them
-- Passed                       each HED and CAL in progress stands before pair far
-- Onward                       a step that goes no further than the pair after this one, or to the body that
--                              a CAL is given
-- Stands, Start                a body that CAL k stands for, and the pair where such a body begins
-- Goes                         a CAL is given such a pair; how it was found is not said here
-- Walking                      all this at one pair of a walk, where the events es are still to come
-- WalkingOn                    the same after a step
use Prim.Native.Nat.{ℕ, ◌+◌, ◌-◌, ◌*◌, ◌<◌, ◌≤◌}
use mathlib.Core.Path.{◌≡◌, refl, ap, ◌∙◌}
use mathlib.Core.Bool.{Bool, true, false}
use mathlib.Core.List.{List, [], ◌∷◌, ◌++◌}
use native.Mathlib.Omega.{arith}
use lib.ListN.{length, length-append}
use lib.Seq.{get_or-append_seam, take-append_seam}
use Rattle.std.specs.Prelude.{Some}
use Rattle.std.proofs.lemmas.Option.{slice_get-get_or}
use Rattle.bodies.specs.Voice.{pairs}
use Rattle.bodies.specs.Bodies.{Event, Closer, by_tal, by_end, by_stop, Body, done, event, repeat, phrase, call, inner, outer}
use Rattle.bodies.specs.Playing.{interpret, phrases_of, copies, playing, walking, nesting}
use Rattle.bodies.specs.Order.{Flat, Shut}
use Rattle.bodies.specs.Places.{open_at, body_at}
use Rattle.moves.specs.declared.Frame.{Frame}
use Rattle.moves.specs.declared.Move.{Move}
use Rattle.moves.specs.declared.Move.TheVariants.{Repeat, Phrase, Call, Tal, End}
use Rattle.moves.specs.Moves.{top, below}

pub data Context : Type 0 where
  outermost : Context
  repeating : ℕ → ℕ → Context → Context
  standing : Context → Context
  calling : ℕ → Context → Context

abbrev pub height : Context → ℕ
height outermost = 0
height (repeating h l c) = height c + 1
height (standing c) = height c
height (calling p c) = height c + 1

abbrev pub in_call : Context → Bool
in_call outermost = false
in_call (repeating h l c) = in_call c
in_call (standing c) = in_call c
in_call (calling p c) = true

abbrev pub closer_of : Context → Closer
closer_of outermost = by_stop
closer_of (repeating h l c) = by_tal
closer_of (standing c) = by_end
closer_of (calling p c) = by_end

unfoldable pub Closed : Bool → Closer → Body → Type 0
Closed u c (done d) = c ≡ d
Closed u c (event e r) = Closed u c r
Closed u c (repeat n i r) = Closed u by_tal i × Closed u c r
Closed u c (phrase k i r) = (u ≡ false) × Closed u by_end i × Closed u c r
Closed u c (call k r) = Closed u c r

pub shut-closed : (c : Closer) (b : Body) → Shut c b → Closed false c b
unfolding Closed Shut
shut-closed c (done d) s = s
shut-closed c (event e r) s = shut-closed c r s
shut-closed c (repeat n i r) s = (shut-closed by_tal i s.0, shut-closed c r s.1)
shut-closed c (phrase k i r) s = (refl, shut-closed by_end i s.0, shut-closed c r s.1)
shut-closed c (call k r) s = shut-closed c r s

pub flat-closed : (c : Closer) (b : Body) → Flat b → Shut c b → Closed true c b
unfolding Closed Flat Shut
flat-closed c (done d) f s = s
flat-closed c (event e r) f s = flat-closed c r f s
flat-closed c (repeat n i r) f s = (flat-closed by_tal i f.0 s.0, flat-closed c r f.1 s.1)
flat-closed c (phrase k i r) f s = absurd f
flat-closed c (call k r) f s = flat-closed c r f s

-- the frames that the walk keeps of the repeats and calls among them
abbrev pub frames_of : Context → List Frame
frames_of outermost = []
frames_of (repeating h l c) = frames_of c ++ Frame.Repeat (h + 1) l ∷ []
frames_of (standing c) = frames_of c
frames_of (calling p c) = frames_of c ++ Frame.Call (p + 1) ∷ []

pub frames-length : (c : Context) → length (frames_of c) ≡ height c
frames-length outermost = refl
frames-length (repeating h l c) = omega (arith, length-append (frames_of c) (Frame.Repeat (h + 1) l ∷ []), frames-length c)
frames-length (standing c) = frames-length c
frames-length (calling p c) = omega (arith, length-append (frames_of c) (Frame.Call (p + 1) ∷ []), frames-length c)

-- The innermost of some frames, and those around it.
pub topped : {A : Type 0} (fs around : List A) (f : A) → fs ≡ around ++ f ∷ [] → (top fs ≡ Some f) × (below fs ≡ around)
topped fs around f e =
    let n : length (around ++ f ∷ []) - 1 ≡ length around = omega (arith, length-append around (f ∷ [])) in
    let short : length around < length (around ++ f ∷ []) = omega (arith, length-append around (f ∷ [])) in
    rw (e, n) (slice_get-get_or (around ++ f ∷ []) (length around) f short ∙ ap Some (get_or-append_seam around f [] f), take-append_seam around (f ∷ []))

unfoldable pub Passed : ℕ → Context → Type 0
Passed far outermost = Unit
Passed far (repeating h l c) = (h < far) × Passed far c
Passed far (standing c) = Passed far c
Passed far (calling p c) = (p < far) × Passed far c

abbrev pub Onward : ℕ → ℕ → Context → ℕ → Context → Type 0
Onward at body c at' c' = (far : ℕ) → at < far → body ≤ far → Passed far c → (at' ≤ far) × Passed far c'

module _ (bs : List ℕ) where
  abbrev pub events_in : Body → List Event
  events_in b = interpret playing (phrases_of playing (pairs bs)) b

  abbrev pub pairs_in : Body → ℕ
  pairs_in b = interpret walking (phrases_of walking (pairs bs)) b

  abbrev pub depth_in : Body → ℕ
  depth_in b = interpret nesting (phrases_of nesting (pairs bs)) b

  unfoldable pub later : List Body → Context → List Event
  later around outermost = []
  later around (repeating h l c) = copies (l - 1) (events_in (body_at (pairs bs) (h + 1))) ++ (events_in (inner around) ++ later (outer around) c)
  later around (standing c) = events_in (inner around) ++ later (outer around) c
  later around (calling p c) = events_in (body_at (pairs bs) (p + 1)) ++ later (outer (open_at (pairs bs) (p + 1))) c

  unfoldable pub to_walk : List Body → Context → ℕ
  to_walk around outermost = 0
  to_walk around (repeating h l c) = 1 + (l - 1) * (pairs_in (body_at (pairs bs) (h + 1)) + 1) + (pairs_in (inner around) + to_walk (outer around) c)
  to_walk around (standing c) = 1 + (pairs_in (inner around) + to_walk (outer around) c)
  to_walk around (calling p c) = 1 + (pairs_in (body_at (pairs bs) (p + 1)) + to_walk (outer (open_at (pairs bs) (p + 1))) c)

  pub record BodyFits (b : Body) (c : Context) : Type 0 where
    pub is-closed : Closed (in_call c) (closer_of c) b
    pub low : depth_in b + height c ≤ 16

  unfoldable pub OuterFit : List Body → Context → Type 0
  OuterFit around outermost = Unit
  OuterFit around (repeating h l c) =
      (0 < l)
      × (l < 256)
      × (outer (open_at (pairs bs) (h + 1)) ≡ around)
      × BodyFits (body_at (pairs bs) (h + 1)) (repeating h l c)
      × BodyFits (inner around) c
      × OuterFit (outer around) c
  OuterFit around (standing c) = (in_call c ≡ false) × BodyFits (inner around) c × OuterFit (outer around) c
  OuterFit around (calling p c) = BodyFits (body_at (pairs bs) (p + 1)) c × OuterFit (outer (open_at (pairs bs) (p + 1))) c

  pub record Stands (k : ℕ) (b : Body) : Type 0 where
    pub is-closed : Closed true by_end b
    pub events : phrases_of playing (pairs bs) k ≡ events_in b
    pub steps : phrases_of walking (pairs bs) k ≡ pairs_in b
    pub depth : phrases_of nesting (pairs bs) k ≡ depth_in b

  abbrev pub Start : ℕ → ℕ → Type 0
  Start k p = Stands k (body_at (pairs bs) p)

  -- what a move may count on besides its place: where a CAL goes, the body that it stands for begins
  abbrev pub Goes : Move → ℕ → Type 0
  Goes (Repeat n) body = Unit
  Goes (Phrase k) body = Unit
  Goes (Call k) body = Start k body
  Goes Tal body = Unit
  Goes End body = Unit

  pub record Walking (at : ℕ) (frames : List Frame) (left : ℕ) (es : List Event) : Type 0 where
    pub context : Context
    pub here : BodyFits (body_at (pairs bs) at) context
    pub around : OuterFit (outer (open_at (pairs bs) at)) context
    pub kept : frames ≡ frames_of context
    pub steps : left ≡ pairs_in (body_at (pairs bs) at) + to_walk (outer (open_at (pairs bs) at)) context
    pub events : es ≡ events_in (body_at (pairs bs) at) ++ later (outer (open_at (pairs bs) at)) context

  pub record WalkingOn (at body : ℕ) (c : Context) (at' : ℕ) (frames' : List Frame) (left' : ℕ) (es' : List Event) : Type 0 where
    pub walking : Walking at' frames' left' es'
    pub onward : Onward at body c at' walking.context
