-- header-asked   the speed of a song is the same by an accepted file and by its header
use Rattle.std.specs.Prelude.{ℕ, ◌≡◌, List}
use Rattle.refusals.specs.Numbers.Outcome.{accepted}
use Rattle.sid.specs.declared.Header.{Header}
use Rattle.sid.specs.Answers.{sid_outcome}
use Rattle.sid.specs.Speed.{song_speed}
use Rattle.sidspeed.specs.Speed.{speed_outcome}

-- To ask an accepted file for the speed of a song, and to ask its header, gives the same answer.
pub header-asked : (f : List ℕ) (h : Header) (n : ℕ) → sid_outcome f ≡ accepted h → speed_outcome f n ≡ song_speed h n
unfolding speed_outcome
header-asked f h n e = rw e
