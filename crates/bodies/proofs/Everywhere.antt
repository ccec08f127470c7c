-- What holds of each stored pair of a voice holds of each event that is played.
-- PieceHas, EachPiece          it holds of a stored pair that is an event; of each of some pairs
-- each_append, each_parts, each-copies   of events put together
-- pieces-split                 of a body's pairs taken apart at its closer
-- Hold, hold_learn             of the events that each CAL stands for; one phrase more
-- each-played, each-phrases    of a body played out, and of the phrases in it
-- piece_has, each-pair         of the pairs of a voice of bytes, where it holds of every pair of two bytes
-- each-event                   so of its played-out events
use Prim.Native.Nat.{ℕ, zero, suc, ◌+◌, ◌<◌}
use mathlib.Core.Path.{sym, subst}
use mathlib.Core.List.{List, [], ◌∷◌, ◌++◌}
use lib.Dec.{eqb}
use lib.ListN.{get_or}
use Rattle.logic.specs.Cases.{cases}
use Rattle.meaning.specs.declared.Meaning.{Meaning}
use Rattle.refusals.specs.Numbers.{Outcome}
use Rattle.kind.specs.declared.Kind.{Kind}
use Rattle.kind.specs.Kinds.{kind_of}
use Rattle.pair.specs.Pairs.{meaning_of}
use Rattle.bodies.specs.Voice.{pairs_by, pairs}
use Rattle.bodies.specs.Bodies.{Event, Body, done, event, repeat, phrase, call, event_at, body_of, Piece, one, HED}
use Rattle.bodies.specs.Bodies.{TAL, DEF, END, CAL, piece, pieces, written_out}
use Rattle.bodies.specs.Playing.{interpret, learn, phrases, copies, playing, phrases_of, played}
use Rattle.bodies.specs.Order.{Sound}
use Rattle.bodies.specs.Faithful.{EachEvent}
use Rattle.bodies.proofs.ReadBack.{read_back}

module _ (P : Event → Type 0) where
  abbrev pub PieceHas : Piece → Type 0
  PieceHas (one e) = P e
  PieceHas (HED n) = Unit
  PieceHas TAL = Unit
  PieceHas (DEF k) = Unit
  PieceHas END = Unit
  PieceHas (CAL k) = Unit

  unfoldable pub EachPiece : List Piece → Type 0
  EachPiece [] = Unit
  EachPiece (p ∷ ps) = PieceHas p × EachPiece ps

  pub each_append : (xs ys : List Event) → EachEvent P xs → EachEvent P ys → EachEvent P (xs ++ ys)
  unfolding EachEvent
  each_append [] ys p q = q
  each_append (x ∷ xs) ys p q = (p.0, each_append xs ys p.1 q)

  pub each_parts : (xs ys : List Event) → EachEvent P (xs ++ ys) → EachEvent P xs × EachEvent P ys
  unfolding EachEvent
  each_parts [] ys h = (tt, h)
  each_parts (x ∷ xs) ys h = let s = each_parts xs ys h.1 in ((h.0, s.0), s.1)

  pub each-copies : (t : ℕ) (xs : List Event) → EachEvent P xs → EachEvent P (copies t xs)
  unfolding EachEvent copies
  each-copies zero xs p = tt
  each-copies (suc t) xs p = each_append xs (copies t xs) p (each-copies t xs p)

  pieces-split : (xs : List Piece) (y : Piece) (ys : List Piece) → EachPiece (xs ++ y ∷ ys) → EachPiece xs × EachPiece ys
  unfolding EachPiece
  pieces-split [] y ys h = (tt, h.1)
  pieces-split (x ∷ xs) y ys h = let s = pieces-split xs y ys h.1 in ((h.0, s.0), s.1)

  abbrev pub Hold : (ℕ → List Event) → Type 0
  Hold calls = (k : ℕ) → EachEvent P (calls k)

  pub hold_learn : (k : ℕ) (es : List Event) (calls : ℕ → List Event) → EachEvent P es → Hold calls → Hold (learn k es calls)
  hold_learn k es calls p c j = cases (eqb k j) (λ e. rw e p) (λ e. rw e (c j))

  pub each-played : (calls : ℕ → List Event) → Hold calls → (b : Body) → EachPiece (written_out b)
      → EachEvent P (interpret playing calls b)
  unfolding written_out interpret EachPiece EachEvent
  each-played calls c (done d) h = tt
  each-played calls c (event e r) h = (h.0, each-played calls c r h.1)
  each-played calls c (repeat t i r) h =
      let s = pieces-split (written_out i) TAL (written_out r) h.1 in
      each_append (copies t (interpret playing calls i)) _ (each-copies t _ (each-played calls c i s.0))
      (each-played calls c r s.1)
  each-played calls c (phrase k i r) h =
      let s = pieces-split (written_out i) END (written_out r) h.1 in
      each_append (interpret playing calls i) _ (each-played calls c i s.0) (each-played calls c r s.1)
  each-played calls c (call k r) h = each_append (calls k) _ (c k) (each-played calls c r h.1)

  pub each-phrases : (calls : ℕ → List Event) → Hold calls → (b : Body) → EachPiece (written_out b)
      → Hold (phrases playing calls b)
  unfolding written_out phrases EachPiece
  each-phrases calls c (done d) h = c
  each-phrases calls c (event e r) h = each-phrases calls c r h.1
  each-phrases calls c (repeat t i r) h =
      let s = pieces-split (written_out i) TAL (written_out r) h.1 in
      each-phrases (phrases playing calls i) (each-phrases calls c i s.0) r s.1
  each-phrases calls c (phrase k i r) h =
      let s = pieces-split (written_out i) END (written_out r) h.1 in
      each-phrases (learn k (interpret playing calls i) calls) (hold_learn k _ calls (each-played calls c i s.0) c) r s.1
  each-phrases calls c (call k r) h = each-phrases calls c r h.1

  pub piece_has : (e : Event) (z : Kind) → P e → PieceHas (piece e z)
  unfolding piece
  piece_has e Kind.Event p = p
  piece_has e (Kind.Hed n) p = tt
  piece_has e Kind.Tal p = tt
  piece_has e (Kind.Def k) p = tt
  piece_has e Kind.End p = tt
  piece_has e (Kind.Cal k) p = tt
  piece_has e Kind.Hlt p = p
  piece_has e (Kind.Bad n) p = p

  pub each-pair : ((i a b : ℕ) → a < 256 → b < 256 → P (event_at i (meaning_of a b))) → (i : ℕ) (bs : List ℕ)
      → ((k : ℕ) → get_or bs k 0 < 256)
      → EachPiece (pieces i (pairs bs))
  unfolding pairs_by pairs pieces EachPiece
  each-pair p i [] h = tt
  each-pair p i (a ∷ []) h = tt
  each-pair p i (a ∷ b ∷ bs) h = (
    piece_has (event_at i (meaning_of a b)) (kind_of (meaning_of a b)) (p i a b (h 0) (h 1)),
    each-pair p (i + 1) bs (λ k. h (suc (suc k))),
  )

  pub each-event : (v : List (Outcome Meaning)) → Sound v → EachPiece (pieces 0 v) → EachEvent P (played v)
  unfolding played
  each-event v s h =
      let stored : EachPiece (written_out (body_of v)) = subst EachPiece (sym (read_back v s)) h in
      each-played (phrases_of playing v) (each-phrases (λ k. []) (unfold EachEvent in λ k. tt) (body_of v) stored) (body_of v) stored
