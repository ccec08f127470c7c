-- What the walk keeps, and how each pair that makes bodies changes it, for the contracts of its code; that
-- this is the played-out voice of crates/bodies/specs/Playing.antt is shown in crates/walk/proofs.
-- next_of                    a pair by its kind: None for an event
-- BoundedMove, Bounded      the bounds of its number
-- Room, Ready               what a move may count on
-- top, below                the frame of the repeat or call that is innermost, and the frames of the others
-- tal, tal_frames            after a TAL: the pair that comes next, and the frames
-- end, end_frames            the same after an END
-- place_after, frames_after   after each pair: the pair that comes next, where body is what a CAL goes to,
--                           and the frames of the repeats and calls in progress
use Rattle.std.specs.Prelude.{ℕ, ◌+◌, ◌-◌, ◌<◌, ◌≤◌, cond, List, [], ◌∷◌, ◌++◌, Option, Some, None, length, take, ltb, slice_get}
use Rattle.kind.specs.declared.Kind.{Kind}
use Rattle.moves.specs.declared.Move.{Move}
use Rattle.moves.specs.declared.Move.TheVariants.{Repeat, Phrase, Call, Tal, End}
use Rattle.moves.specs.declared.Frame.{Frame}

abbrev pub next_of : Kind → Option Move
next_of Kind.Event = None
next_of (Kind.Hed n) = Some (Repeat n)
next_of Kind.Tal = Some Tal
next_of (Kind.Def k) = Some (Phrase k)
next_of Kind.End = Some End
next_of (Kind.Cal k) = Some (Call k)
next_of Kind.Hlt = None
next_of (Kind.Bad n) = None

abbrev pub BoundedMove : Move → Type 0
BoundedMove (Repeat n) = n < 256
BoundedMove (Phrase k) = k < 24
BoundedMove (Call k) = k < 24
BoundedMove Tal = Unit
BoundedMove End = Unit

abbrev pub Bounded : Option Move → Type 0
Bounded None = Unit
Bounded (Some m) = BoundedMove m

abbrev pub Room : Move → ℕ → Type 0
Room (Repeat n) d = d < 16
Room (Phrase k) d = Unit
Room (Call k) d = d < 16
Room Tal d = Unit
Room End d = Unit

pub record Ready (m : Move) (at : ℕ) (frames : List Frame) : Type 0 where
  pub few : at < 32768
  pub low : length frames ≤ 16
  pub room : Room m (length frames)

abbrev pub top : {A : Type 0} → List A → Option A
top frames = slice_get frames (length frames - 1)

abbrev pub below : {A : Type 0} → List A → List A
below frames = take (length frames - 1) frames

-- after a TAL, by the frame that is innermost, and those around it
abbrev pub tal_by : ℕ → Option Frame → ℕ
tal_by at (Some (Frame.Repeat body left)) = cond (ltb 1 left) body (at + 1)
tal_by at (Some (Frame.Call after)) = at + 1
tal_by at None = at + 1

abbrev pub tal_left : List Frame → Option Frame → List Frame
tal_left around (Some (Frame.Repeat body left)) = cond (ltb 1 left) (around ++ Frame.Repeat body (left - 1) ∷ []) around
tal_left around (Some (Frame.Call after)) = around
tal_left around None = around

abbrev pub tal : ℕ → List Frame → ℕ
tal at frames = tal_by at (top frames)

abbrev pub tal_frames : List Frame → List Frame
tal_frames frames = tal_left (below frames) (top frames)

abbrev pub end_by : ℕ → Option Frame → ℕ
end_by at (Some (Frame.Repeat body left)) = at + 1
end_by at (Some (Frame.Call after)) = after
end_by at None = at + 1

abbrev pub end_left : List Frame → Option Frame → List Frame
end_left frames (Some (Frame.Repeat body left)) = frames
end_left frames (Some (Frame.Call after)) = below frames
end_left frames None = frames

abbrev pub end : ℕ → List Frame → ℕ
end at frames = end_by at (top frames)

abbrev pub end_frames : List Frame → List Frame
end_frames frames = end_left frames (top frames)

unfoldable pub place_after : Move → ℕ → ℕ → List Frame → ℕ
place_after (Repeat n) at body frames = at + 1
place_after (Phrase k) at body frames = at + 1
place_after (Call k) at body frames = body
place_after Tal at body frames = tal at frames
place_after End at body frames = end at frames

unfoldable pub frames_after : Move → ℕ → List Frame → List Frame
frames_after (Repeat n) at frames = frames ++ Frame.Repeat (at + 1) n ∷ []
frames_after (Phrase k) at frames = frames
frames_after (Call k) at frames = frames ++ Frame.Call (at + 1) ∷ []
frames_after Tal at frames = tal_frames frames
frames_after End at frames = end_frames frames
