-- Laws of a file's outcome; when a file is accepted is in Acceptance.antt.
-- song-once                    no two answers have the same outcome
-- container-refused            21 to 26 come first, whatever the voices' pairs mean
-- head-refused                 21 to 24 by the file's head
-- long-refused, song-cut-off   a file of more than 65,536 bytes is 22, and so are its first n bytes for n
--                              above 65,536
use Rattle.std.specs.Prelude.{Result, ℕ, ◌<◌, ◌≡◌, List, length, take}
use Rattle.std.proofs.Common.{sym, ◌∙◌, arith, length-take}
use Rattle.refusals.specs.declared.Refusal.{Refusal}
use Rattle.refusals.specs.Numbers.{outcome_of}
use Rattle.refusals.specs.Numbers.Outcome.{refused}
use Rattle.refusals.specs.Laws.{outcome-once}
use Rattle.container.specs.Head.{head_outcome}
use Rattle.container.specs.Layout.{container_outcome}
use Rattle.container.specs.Laws.{head_first, long-head}
use Rattle.bodies.specs.Voice.{Reader, pairs}
use Rattle.mus.specs.declared.Song.{Song}
use Rattle.mus.specs.Song.{song_by, mus_outcome}

-- No two answers have the same outcome.
pub song-once : (a b : Result Song Refusal) → outcome_of a ≡ outcome_of b → a ≡ b
song-once = outcome-once

-- A file whose container one of 21 to 26 refuses is refused so, by every reader of pairs.
pub container-refused : (read : Reader) (f : List ℕ) (n p : ℕ) → container_outcome f ≡ refused n p → song_by read f ≡ refused n p
unfolding song_by
container-refused read f n p e = rw e

-- A file whose head one of 21 to 24 refuses is refused so.
pub head-refused : (f : List ℕ) (n p : ℕ) → head_outcome f ≡ refused n p → mus_outcome f ≡ refused n p
head-refused f n p e = container-refused pairs f n p (head_first f n p e)

-- A file of more than 65,536 bytes is refused with 22, at place 0.
pub long-refused : (f : List ℕ) → 65536 < length f → mus_outcome f ≡ refused 22 0
long-refused f h = head-refused f 22 0 (long-head f h)

-- The first n bytes of such a file have its outcome, for n above 65,536.
pub song-cut-off : (f : List ℕ) (n : ℕ) → 65536 < length f → 65536 < n → mus_outcome (take n f) ≡ mus_outcome f
song-cut-off f n h g = long-refused (take n f) (omega (arith, length-take n f)) ∙ sym (long-refused f h)
