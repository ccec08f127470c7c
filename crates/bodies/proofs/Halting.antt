-- A voice whose only HLT is its last stored pair plays HLT once, as its last event.
-- QuietPiece, Quiet       stored pairs of which none is HLT
-- Stops, Ending           stored pairs of which the last is HLT, with a number, and no other
-- Calm                    calls of phrases without HLT
-- ending_played, ending_phrases  a body that ends in HLT, played out
-- ends_in_hlt             so of a voice
use Prim.Native.Nat.{ℕ, ◌+◌}
use mathlib.Core.Path.{◌≡◌, refl, sym, ap, ◌∙◌, subst}
use mathlib.Core.List.{List, [], ◌∷◌, ◌++◌, append_assoc}
use mathlib.Core.Logic.{◌⊎◌, ⊎_elim}
use lib.ListN.{length}
use Rattle.meaning.specs.declared.Meaning.{Meaning}
use Rattle.refusals.specs.Numbers.{Outcome}
use Rattle.refusals.specs.Numbers.Outcome.{accepted}
use Rattle.bodies.specs.Bodies.{Event, Closer, Body, done, event, repeat, phrase, call, body_of, Piece, one, HED}
use Rattle.bodies.specs.Bodies.{TAL, DEF, END, CAL, pieces, written_out}
use Rattle.bodies.specs.Playing.{interpret, learn, phrases, copies, playing, phrases_of, played}
use Rattle.bodies.specs.Order.{Sound}
use Rattle.bodies.specs.Faithful.{EachEvent, Goes, NoHlt, EndsInHlt}
use Rattle.bodies.proofs.ReadBack.{read_back}
use Rattle.bodies.proofs.Everywhere.{PieceHas, EachPiece, each-copies, Hold, hold_learn}
use Rattle.bodies.proofs.Everywhere.{each-played, each-phrases}

abbrev pub QuietPiece : Piece → Type 0
QuietPiece p = PieceHas Goes p

abbrev Quiet : List Piece → Type 0
Quiet ps = EachPiece Goes ps

abbrev pub Stops : ℕ → Piece → Type 0
Stops n (one e) = (e.number + 1 ≡ n) × (e.meaning ≡ accepted Meaning.Hlt)
Stops n (HED t) = ⊥
Stops n TAL = ⊥
Stops n (DEF k) = ⊥
Stops n END = ⊥
Stops n (CAL k) = ⊥

abbrev Empty : List Piece → Type 0
Empty [] = Unit
Empty (p ∷ ps) = ⊥

unfoldable pub Ending : ℕ → List Piece → Type 0
Ending n [] = ⊥
Ending n (p ∷ ps) = (Stops n p × Empty ps) ⊎ (QuietPiece p × Ending n ps)

some : (xs : List Piece) (y : Piece) (ys : List Piece) → Empty (xs ++ y ∷ ys) → ⊥
some [] y ys h = h
some (x ∷ xs) y ys h = h

ending_split : (n : ℕ) (xs : List Piece) (y : Piece) (ys : List Piece) → (Stops n y → ⊥) → Ending n (xs ++ y ∷ ys)
    → Quiet xs × Ending n ys
unfolding EachPiece Ending
ending_split n [] y ys other h = ⊎_elim (λ s. absurd (other s.0)) (λ s. (tt, s.1)) h
ending_split n (x ∷ xs) y ys other h =
    ⊎_elim (λ s. absurd (some xs y ys s.1)) (λ s. let t = ending_split n xs y ys other s.1 in ((s.0, t.0), t.1)) h

-- what the calls stand for has no HLT
abbrev Calm : (ℕ → List Event) → Type 0
Calm calls = Hold Goes calls

-- a body that is written with nothing is its end
only_end : (P : Body → Type 0) → ((d : Closer) → P (done d)) → (b : Body) → Empty (written_out b) → P b
unfolding written_out
only_end P p (done d) h = p d
only_end P p (event e r) h = absurd h
only_end P p (repeat t i r) h = absurd h
only_end P p (phrase k i r) h = absurd h
only_end P p (call k r) h = absurd h

-- events that are not HLT, before events without HLT
no_hlt-append : (xs ys : List Event) → EachEvent Goes xs → NoHlt ys → NoHlt (xs ++ ys)
unfolding NoHlt EachEvent
no_hlt-append [] ys p q = q
no_hlt-append (x ∷ xs) ys p q = (p.0, no_hlt-append xs ys p.1 q)

module _ (n : ℕ) where
  halted_after : (xs es : List Event) → EachEvent Goes xs → EndsInHlt es n → EndsInHlt (xs ++ es) n
  halted_after xs es p h =
      record {
        before = xs ++ h.before;
        last = h.last;
        split = ap (λ (l : List Event). xs ++ l) h.split ∙ sym (append_assoc xs h.before (h.last ∷ []));
        number = h.number;
        halts = h.halts;
        only = no_hlt-append xs h.before p h.only;
      }

  -- HED, DEF and CAL are not HLT, and so for what stands between an opener and its closer
  opened : (p : Piece) (ps : List Piece) → (Stops n p → ⊥) → Ending n (p ∷ ps) → Ending n ps
  unfolding Ending
  opened p ps other h = ⊎_elim (λ s. absurd (other s.0)) (λ s. s.1) h

  within : (p y : Piece) (i r : Body) → (Stops n p → ⊥) → (Stops n y → ⊥) → Ending n (p ∷ (written_out i ++ y ∷ written_out r))
      → Quiet (written_out i) × Ending n (written_out r)
  within p y i r first last h =
      ending_split n (written_out i) y (written_out r) last (opened p (written_out i ++ y ∷ written_out r) first h)

  ending_played : (calls : ℕ → List Event) → Calm calls → (b : Body) → Ending n (written_out b)
      → EndsInHlt (interpret playing calls b) n
  unfolding written_out interpret Ending EachEvent NoHlt
  ending_played calls c (done d) h = absurd h
  ending_played calls c (event e r) h =
      ⊎_elim
      (λ s. record {
        before = [];
        last = e;
        split =
            ap (λ (l : List Event). e ∷ l)
            (only_end (λ (b : Body). interpret playing calls b ≡ []) (λ d. refl) r s.1);
        number = s.0.0;
        halts = s.0.1;
        only = tt;
      })
      (λ s. halted_after (e ∷ []) (interpret playing calls r) (s.0, tt) (ending_played calls c r s.1))
      h
  ending_played calls c (repeat t i r) h =
      let s = within (HED t) TAL i r (λ x. x) (λ x. x) h in
      halted_after (copies t (interpret playing calls i)) _ (each-copies Goes t _ (each-played Goes calls c i s.0))
      (ending_played calls c r s.1)
  ending_played calls c (phrase k i r) h =
      let s = within (DEF k) END i r (λ x. x) (λ x. x) h in
      halted_after (interpret playing calls i) _ (each-played Goes calls c i s.0) (ending_played calls c r s.1)
  ending_played calls c (call k r) h =
      halted_after (calls k) _ (c k) (ending_played calls c r (opened (CAL k) (written_out r) (λ x. x) h))

  ending_phrases : (calls : ℕ → List Event) → Calm calls → (b : Body) → Ending n (written_out b) → Calm (phrases playing calls b)
  unfolding written_out phrases Ending
  ending_phrases calls c (done d) h = absurd h
  ending_phrases calls c (event e r) h =
      ⊎_elim (λ s. only_end (λ (b : Body). Calm (phrases playing calls b)) (λ d. c) r s.1)
      (λ s. ending_phrases calls c r s.1) h
  ending_phrases calls c (repeat t i r) h =
      let s = within (HED t) TAL i r (λ x. x) (λ x. x) h in
      ending_phrases (phrases playing calls i) (each-phrases Goes calls c i s.0) r s.1
  ending_phrases calls c (phrase k i r) h =
      let s = within (DEF k) END i r (λ x. x) (λ x. x) h in
      ending_phrases (learn k (interpret playing calls i) calls)
      (hold_learn Goes k _ calls (each-played Goes calls c i s.0) c) r s.1
  ending_phrases calls c (call k r) h = ending_phrases calls c r (opened (CAL k) (written_out r) (λ x. x) h)

pub ends_in_hlt : (v : List (Outcome Meaning)) → Sound v → Ending (length v) (pieces 0 v) → EndsInHlt (played v) (length v)
unfolding played
ends_in_hlt v s h =
    let stored : Ending (length v) (written_out (body_of v)) = subst (Ending (length v)) (sym (read_back v s)) h in
    let calm = ending_phrases (length v) (λ k. []) (unfold EachEvent in λ k. tt) (body_of v) stored in
    ending_played (length v) (phrases_of playing v) calm (body_of v) stored
