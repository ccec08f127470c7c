-- What is shown of the time that is answered (`LengthShows`, which proofs/Shows.antt proves).
-- HltAt         the time of a voice's only HLT
-- LengthShows   so of every answer; how great it gets; and what a voice's map says
use Rattle.std.specs.Prelude.{ℕ, ◌≤◌, ◌<◌, ◌≡◌, List, [], ◌∷◌, ◌++◌, length, get_or}
use Rattle.meaning.specs.declared.Meaning.TheVariants.{Hlt}
use Rattle.refusals.specs.Numbers.Outcome.{accepted}
use Rattle.clock.specs.Times.{time_of}
use Rattle.bodies.specs.Bodies.{Event}
use Rattle.bodies.specs.Faithful.{NoHlt}
use Rattle.mus.specs.declared.Voice.{Voice}
use Rattle.mus.specs.declared.Song.{Song}
use Rattle.mus.specs.Song.{mus_outcome}
use Rattle.mus.specs.Asked.{song_voice}
use Rattle.walk.specs.Times.{meanings}
use Rattle.events.specs.Listing.{played_in}
use Rattle.voicelength.specs.Length.{length_asked}
use Rattle.voicelength.specs.Lasting.{MapSays}

pub record HltAt (f : List ℕ) (v : Voice) (t : ℕ) : Type 0 where
  pub before : List Event
  pub last : Event
  -- The played-out voice is some events, and then one.
  pub split : played_in f v ≡ before ++ last ∷ []
  -- That one is HLT.
  pub halts : last.meaning ≡ accepted Hlt
  -- None before it is HLT.
  pub only : NoHlt before
  -- The time is its exact time.
  pub time : t ≡ time_of (meanings (played_in f v)) (length before)

pub record LengthShows : Type 0 where
  -- The time that is answered for a voice of an accepted file is that of its only HLT.
  pub hlt : (f : List ℕ) (s : Song) (voice t : ℕ) → mus_outcome f ≡ accepted s → length_asked f voice ≡ accepted t
      → HltAt f (song_voice s voice) t
  -- Of a file of bytes it is at most 1,048,575 × 448 × 384.
  pub low : (f : List ℕ) (voice t : ℕ) → ((k : ℕ) → get_or f k 0 < 256) → length_asked f voice ≡ accepted t → t ≤ 180388454400
  -- A voice's map says how long its played-out events last.
  pub map : (bs : List ℕ) → MapSays bs
