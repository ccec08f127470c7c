-- Document 01, 'PSID and RSID': the speed of a song, asked of a file.
-- speed_outcome   the file's own refusal, else what its header says of the song
use Rattle.std.specs.Prelude.{ℕ, List}
use Rattle.refusals.specs.Numbers.{Outcome}
use Rattle.refusals.specs.Tests.{and_then}
use Rattle.sid.specs.Answers.{sid_outcome}
use Rattle.sid.specs.Speed.{song_speed}

unfoldable pub speed_outcome : List ℕ → ℕ → Outcome ℕ
speed_outcome f n = and_then (sid_outcome f) (λ h. song_speed h n)
