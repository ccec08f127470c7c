-- What acceptance has shown of a voice and of a song (`AcceptanceShows`, which proofs/Accepted.antt proves).
-- AcceptedVoice     of a voice's stored pairs
-- ReportedVoice     of a voice as it is reported
-- AcceptedSong      of the three voices of a file
-- AcceptanceShows   of which voices and files it holds
use Rattle.std.specs.Prelude.{ℕ, ◌<◌, ◌≤◌, ◌≡◌, List, length}
use Rattle.meaning.specs.declared.Meaning.{Meaning}
use Rattle.refusals.specs.Numbers.{Outcome}
use Rattle.refusals.specs.Numbers.Outcome.{accepted}
use Rattle.bodies.specs.Voice.{pairs}
use Rattle.bodies.specs.Bodies.{body_of, pieces, written_out}
use Rattle.bodies.specs.Playing.{Interpretation, phrases_of, played, events_of, walked_of, depth_of}
use Rattle.bodies.specs.Order.{Called}
use Rattle.bodies.specs.Faithful.{OnlyEvents, TheOne, AllMean, EndsInHlt}
use Rattle.mus.specs.declared.Voice.{Voice}
use Rattle.mus.specs.declared.Song.{Song}
use Rattle.mus.specs.Song.{mus_outcome}
use Rattle.mus.specs.Asked.{bytes_of}
use Rattle.mus.specs.Acceptance.{Passes}

pub record AcceptedVoice (v : List (Outcome Meaning)) : Type 1 where
  -- Every stored pair means something: none is unassigned or out of its range.
  pub means : AllMean v
  -- The bodies written out again are the stored pairs: HED n, its body, TAL; DEF k, its body, END; CAL k; and
  -- events.
  pub written : written_out (body_of v) ≡ pieces 0 v
  -- No event in them is HED, TAL, DEF, END or CAL.
  pub plain : OnlyEvents (body_of v)
  -- Each CAL k stands for the body of the one DEF k of the voice, played out; and so for its pairs walked,
  -- its depth and whatever else is made of bodies.
  pub calls : {A : Type 0} (m : Interpretation A) (k : ℕ) → Called k (body_of v) → TheOne m (phrases_of m v) k (body_of v)
  -- The played-out voice ends in its only HLT, the last stored pair.
  pub ends : EndsInHlt (played v) (length v)
  -- At most 16 repeats and calls are in progress at once.
  pub depth : depth_of v ≤ 16
  -- At most 1,048,576 pairs are walked.
  pub walked : walked_of v ≤ 1048576
  -- No more events are played than pairs walked.
  pub events : events_of v ≤ walked_of v

pub record ReportedVoice (f : List ℕ) (v : Voice) : Type 1 where
  -- All that AcceptedVoice says holds of its bytes in the file.
  pub stored : AcceptedVoice (pairs (bytes_of f v))
  -- The events reported are those of the played-out voice.
  pub events : v.events ≡ events_of (pairs (bytes_of f v))
  -- The pairs walked are those of the definition.
  pub walked : v.walked ≡ walked_of (pairs (bytes_of f v))
  -- The pairs walked are at most 1,048,576.
  pub few : v.walked ≤ 1048576

pub record AcceptedSong (f : List ℕ) (s : Song) : Type 1 where
  -- Voice 1 is as ReportedVoice says.
  pub voice1 : ReportedVoice f s.voice1
  -- Voice 2 is as ReportedVoice says.
  pub voice2 : ReportedVoice f s.voice2
  -- Voice 3 is as ReportedVoice says.
  pub voice3 : ReportedVoice f s.voice3

pub record AcceptanceShows : Type 1 where
  -- AcceptedVoice holds of every voice with a stored pair, to which none of 27 to 33 applies.
  pub voice : (bs : List ℕ) → 1 < length bs → Passes (pairs bs) → AcceptedVoice (pairs bs)
  -- AcceptedSong holds of every file that is accepted.
  pub song : (f : List ℕ) (s : Song) → mus_outcome f ≡ accepted s → AcceptedSong f s
