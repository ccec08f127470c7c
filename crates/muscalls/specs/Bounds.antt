-- What the code that makes the list of the voices' numbers may count on, for its contract:
-- places and lengths in a file that was accepted are small.
-- NarrowVoice, NarrowSong   a voice; the voices of a song
use Rattle.std.specs.Prelude.{◌≤◌}
use Rattle.mus.specs.declared.Voice.{Voice}
use Rattle.mus.specs.declared.Song.{Song}

pub record NarrowVoice (v : Voice) : Type 0 where
  pub offset : v.offset ≤ 65536
  pub length : v.length ≤ 65536

pub record NarrowSong (s : Song) : Type 0 where
  pub voice1 : NarrowVoice s.voice1
  pub voice2 : NarrowVoice s.voice2
  pub voice3 : NarrowVoice s.voice3
