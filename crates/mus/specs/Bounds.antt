-- What code may count on, for contracts.
-- InFile   a file of at most 65,536 bytes, and voices that begin at most at 65,536
-- InSong   a voice of an accepted file, as acceptance has reported it
use Rattle.std.specs.Prelude.{ℕ, ◌<◌, ◌≤◌, ◌≡◌, List, length}
use Rattle.container.specs.declared.Layout.{Layout}
use Rattle.bodies.specs.Voice.{pairs}
use Rattle.bodies.specs.Playing.{events_of, walked_of}
use Rattle.mus.specs.declared.Voice.{Voice}
use Rattle.mus.specs.Asked.{bytes_of}
use Rattle.mus.specs.Acceptance.{Passes}

pub record InFile (f : List ℕ) (l : Layout) : Type 0 where
  -- The file has at most 65,536 bytes: 22 lets no longer one pass.
  pub short : length f ≤ 65536
  -- Voice 1 begins at most at 65,536.
  pub voice1 : l.voice1.from ≤ 65536
  -- Voice 2 begins at most at 65,536.
  pub voice2 : l.voice2.from ≤ 65536
  -- Voice 3 begins at most at 65,536.
  pub voice3 : l.voice3.from ≤ 65536

pub record InSong (f : List ℕ) (v : Voice) : Type 0 where
  -- None of 27 to 33 applies to it.
  pub passes : Passes (pairs (bytes_of f v))
  -- It has a stored pair: 23 lets no voice of 0 or an odd number of bytes pass.
  pub stored : 1 < length (bytes_of f v)
  -- The file has at most 65,536 bytes: 22 lets no longer one pass.
  pub short : length f ≤ 65536
  -- It begins at most at 65,536.
  pub low : v.offset ≤ 65536
  -- Its events are those of the definition.
  pub events : v.events ≡ events_of (pairs (bytes_of f v))
  -- Its pairs walked are those of the definition.
  pub walked : v.walked ≡ walked_of (pairs (bytes_of f v))
