-- Document 01, 'Playing a voice': 'The played-out voice is made from the stored pairs alone. .. TAL closes
-- the last HED still open, END the open DEF; the body is the pairs between.'
-- Event                  an event: the number of its pair in the voice, and what the pair means
-- Closer                 what a body ends with: its TAL, its END, or the voice's end
-- Body                   a body: events, repeats, phrases and calls in stored order, up to its closer
-- inner, outer           of the bodies that are still open, the innermost, and those around it
-- event_at                an event by its pair's number and meaning
-- with_pair               a pair put before the bodies that are open after it: HED and DEF take the innermost
--                        as their own body, and go on in the one around it; TAL and END begin a body from its
--                        end. HLT, and a pair that means nothing, count among the events here
-- bodies                 the bodies open at the first of some pairs, innermost first
-- body_of                 a voice as one body
-- Piece, piece, pieces   a stored pair as what it is to the structure: an event, or HED n, TAL, DEF k, END,
--                        CAL k
-- written_out             a body written out again, as the paper words it: HED n, its body, TAL; DEF k, its
--                        body, END; CAL k
use Rattle.std.specs.Prelude.{ℕ, ◌+◌, List, [], ◌∷◌, ◌++◌}
use Rattle.meaning.specs.declared.Meaning.{Meaning}
use Rattle.refusals.specs.Numbers.{Outcome}
use Rattle.kind.specs.declared.Kind.{Kind}
use Rattle.kind.specs.Kinds.{kind_of}

pub record Event : Type 0 where
  pub number : ℕ
  pub meaning : Outcome Meaning

pub data Closer : Type 0 where
  by_tal by_end by_stop : Closer

pub data Body : Type 0 where
  done : Closer → Body
  event : Event → Body → Body
  repeat : ℕ → Body → Body → Body
  phrase : ℕ → Body → Body → Body
  call : ℕ → Body → Body

unfoldable pub inner : List Body → Body
inner [] = done by_stop
inner (b ∷ bs) = b

unfoldable pub outer : List Body → List Body
outer [] = []
outer (b ∷ bs) = bs

unfoldable pub with_pair : Event → Kind → List Body → List Body
with_pair e Kind.Event bs = event e (inner bs) ∷ outer bs
with_pair e (Kind.Hed n) bs = repeat n (inner bs) (inner (outer bs)) ∷ outer (outer bs)
with_pair e Kind.Tal bs = done by_tal ∷ bs
with_pair e (Kind.Def k) bs = phrase k (inner bs) (inner (outer bs)) ∷ outer (outer bs)
with_pair e Kind.End bs = done by_end ∷ bs
with_pair e (Kind.Cal k) bs = call k (inner bs) ∷ outer bs
with_pair e Kind.Hlt bs = event e (inner bs) ∷ outer bs
with_pair e (Kind.Bad n) bs = event e (inner bs) ∷ outer bs

abbrev pub event_at : ℕ → Outcome Meaning → Event
event_at i m = record { number = i; meaning = m }

unfoldable pub bodies : ℕ → List (Outcome Meaning) → List Body
bodies i [] = []
bodies i (m ∷ ms) = with_pair (event_at i m) (kind_of m) (bodies (i + 1) ms)

unfoldable pub body_of : List (Outcome Meaning) → Body
body_of v = inner (bodies 0 v)

pub data Piece : Type 0 where
  one : Event → Piece
  HED : ℕ → Piece
  TAL : Piece
  DEF : ℕ → Piece
  END : Piece
  CAL : ℕ → Piece

unfoldable pub piece : Event → Kind → Piece
piece e Kind.Event = one e
piece e (Kind.Hed n) = HED n
piece e Kind.Tal = TAL
piece e (Kind.Def k) = DEF k
piece e Kind.End = END
piece e (Kind.Cal k) = CAL k
piece e Kind.Hlt = one e
piece e (Kind.Bad n) = one e

unfoldable pub pieces : ℕ → List (Outcome Meaning) → List Piece
pieces i [] = []
pieces i (m ∷ ms) = piece (event_at i m) (kind_of m) ∷ pieces (i + 1) ms

unfoldable pub written_out : Body → List Piece
written_out (done c) = []
written_out (event e r) = one e ∷ written_out r
written_out (repeat n i r) = HED n ∷ (written_out i ++ TAL ∷ written_out r)
written_out (phrase k i r) = DEF k ∷ (written_out i ++ END ∷ written_out r)
written_out (call k r) = CAL k ∷ written_out r
