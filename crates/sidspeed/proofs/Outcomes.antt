-- The outcome of each way through a question for a song's speed, by the tests of the file. Assumes nothing.
-- song_refused, song_asked   the file refused, and what its fields say of the song
use Prim.Native.Nat.{ℕ}
use mathlib.Core.Path.{◌≡◌}
use mathlib.Core.List.{List}
use Rattle.refusals.specs.Numbers.Outcome.{accepted, refused}
use Rattle.sidheader.specs.declared.Parts.{Parts}
use Rattle.sid.specs.Header.{header_of}
use Rattle.sid.specs.Answers.{tested_outcome}
use Rattle.sid.specs.Laws.{read-headed}
use Rattle.sid.specs.Speed.{speed_of}
use Rattle.sidspeed.specs.Speed.{speed_outcome}

module _ (f : List ℕ) (n : ℕ) where
  pub song_refused : (k place : ℕ) → refused k place ≡ tested_outcome f → refused k place ≡ speed_outcome f n
  unfolding speed_outcome
  song_refused k place e = rw (← read-headed f (refused k place) e)

  pub song_asked : (t : Parts) → accepted t ≡ tested_outcome f
      → speed_of t.fields.songs t.fields.speed n ≡ speed_outcome f n
  unfolding speed_outcome header_of
  song_asked t e = rw (← read-headed f (accepted t) e)
