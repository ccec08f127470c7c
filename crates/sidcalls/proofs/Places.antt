-- The refusals of a PSID or RSID file have a number above 0 and a small place.
-- sid_low, load_low, speed_low   so of reading, loading, and of a song's speed
use Prim.Native.Nat.{ℕ}
use mathlib.Core.Bool.{not, ◌||◌}
use mathlib.Core.List.{List, [], ◌∷◌}
use lib.Dec.{eqb, ltb}
use Rattle.refusals.specs.Numbers.{Outcome}
use Rattle.refusals.specs.Numbers.Outcome.{accepted, refused}
use Rattle.refusals.specs.declared.Reason.TheVariants.{MemorySize, NoSuchSong}
use Rattle.refusals.specs.Tests.{test, and_then}
use Rattle.sidheader.specs.Fields.{fields_of}
use Rattle.sidheader.specs.Payload.{payload_of}
use Rattle.sidrefusals.specs.PayloadTests.{sid_tests}
use Rattle.sid.specs.declared.Header.{Header}
use Rattle.sid.specs.Header.{header_of}
use Rattle.sid.specs.Answers.{sid_outcome}
use Rattle.sidload.specs.Loading.{load_outcome}
use Rattle.sid.specs.Speed.{speed_bit, song_speed}
use Rattle.sidspeed.specs.Speed.{speed_outcome}
use Rattle.answers.specs.Apart.{LowPlace, tests_low}

pub sid_low : (f : List ℕ) → LowPlace (sid_outcome f)
unfolding sid_outcome
sid_low f = tests_low (sid_tests f) (accepted (header_of f (fields_of f) (payload_of f (fields_of f)))) tt

pub load_low : (f : List ℕ) (cells : ℕ) → LowPlace (load_outcome f cells)
unfolding load_outcome
load_low f cells = tests_low (test MemorySize (not (eqb cells 65536)) ∷ []) (sid_outcome f) (sid_low f)

pub speed_low : (f : List ℕ) (song : ℕ) → LowPlace (speed_outcome f song)
unfolding speed_outcome
speed_low f song = go (sid_outcome f) (sid_low f)
  where
    go : (o : Outcome Header) → LowPlace o → LowPlace (and_then o (λ h. song_speed h song))
    go (accepted h) l = tests_low (test NoSuchSong (eqb song 0 || ltb h.songs song) ∷ []) (accepted (speed_bit h.speed song)) tt
    go (refused n p) l = l
