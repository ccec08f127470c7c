-- Laws of how long a voice lasts: its refusals, and how its time goes with a listing (window_in of
-- crates/events/specs/Listing.antt). That no two answers have the same outcome is outcome-once of
-- crates/refusals/specs/Laws.antt.
-- voice-first, file-next    41 by the voice, then the file's own refusal
-- Timed, length-accepted    any other answer is the time of the voice asked for, of an accepted file
-- length-given              each voice of an accepted file has a time
-- last-time, last_jiffy     no event of the voice is later; where a listing reaches the last event, its jiffy
--                           is the time divided by 384, rounded down
-- every_jiffy               no jiffy listed is greater
use Rattle.std.specs.Prelude.{ℕ, ◌+◌, ◌-◌, ◌/◌, ◌≤◌, ◌<◌, ◌≡◌, true, false, ◌||◌, List, ltb, length, get_or}
use Rattle.std.proofs.Common.{◌∙◌}
use Rattle.std.proofs.Math.Path.{ap}
use native.Mathlib.Omega.{arith}
use Rattle.refusals.specs.Numbers.Outcome.{accepted, refused}
use Rattle.refusals.specs.Laws.{accepted-once}
use Rattle.clock.specs.Times.{time_of, jiffy_of}
use Rattle.clock.specs.Laws.{times_rise, jiffies_rise}
use Rattle.mus.specs.declared.Voice.{Voice}
use Rattle.mus.specs.declared.Song.{Song}
use Rattle.mus.specs.Song.{mus_outcome}
use Rattle.mus.specs.Asked.{song_voice, voice_asked}
use Rattle.mus.specs.Acceptance.{then_given}
use Rattle.mus.specs.AskedLaws as asked
use Rattle.mus.specs.AskedLaws.{number-first, asked-accepted}
use Rattle.walk.specs.Times.{meanings}
use Rattle.events.specs.Listing.{played_in, window_in}
use Rattle.events.specs.Laws.{count_in, cell_jiffy}
use Rattle.voicelength.specs.Length.{end_of, length_asked}

-- What an answer with a time says: the number is 1 to 3, the file is accepted, and the time is that of the
-- last event of the voice with that number.
pub record Timed (f : List ℕ) (voice t : ℕ) : Type 0 where
  pub number : ltb voice 1 || ltb 3 voice ≡ false
  pub song : Song
  pub file : mus_outcome f ≡ accepted song
  pub time : end_of (played_in f (song_voice song voice)) ≡ t

module _ (f : List ℕ) (voice : ℕ) where
  -- A voice that is not 1 to 3 is 41, whatever the file.
  pub voice-first : ltb voice 1 || ltb 3 voice ≡ true → length_asked f voice ≡ refused 41 0
  unfolding length_asked
  voice-first e = rw (number-first f voice e)

  -- For one of these voices a refused file is answered with its own refusal.
  pub file-next : (number place : ℕ) → ltb voice 1 || ltb 3 voice ≡ false → mus_outcome f ≡ refused number place
      → length_asked f voice ≡ refused number place
  unfolding length_asked
  file-next number place e q = rw (asked.file-next f voice e, q)

  -- Each of the three voices of an accepted file has a time: that of its last event.
  pub length-given : (s : Song) → ltb voice 1 || ltb 3 voice ≡ false → mus_outcome f ≡ accepted s
      → length_asked f voice ≡ accepted (end_of (played_in f (song_voice s voice)))
  unfolding length_asked
  length-given s e q = rw (asked.file-next f voice e, q)

  -- An answer with a time is as Timed says.
  pub length-accepted : (t : ℕ) → length_asked f voice ≡ accepted t → Timed f voice t
  unfolding length_asked
  length-accepted t e =
      let given = then_given (voice_asked f voice) (λ v. accepted (end_of (played_in f v))) t e in
      let a = asked-accepted f voice given.value given.was in
      record {
        number = a.number;
        song = a.song;
        file = a.file;
        time = rw a.voice (accepted-once given.gives);
      }

module _ (f : List ℕ) (v : Voice) where
  -- No event of the played-out voice has a later time than its last.
  pub last-time : (i : ℕ) → i < length (played_in f v) → time_of (meanings (played_in f v)) i ≤ end_of (played_in f v)
  unfolding end_of
  last-time i h = times_rise (meanings (played_in f v)) i _ (omega arith)

  module _ (first : ℕ) (os js : List ℕ) where
    -- Where a listing reaches the last event, its jiffy is that time divided by 384, rounded down.
    pub last_jiffy : (i : ℕ) → i < count_in f v first os → first + i + 1 ≡ length (played_in f v)
        → get_or (window_in f v first os js).jiffies i 0 ≡ end_of (played_in f v) / 384
    unfolding end_of jiffy_of
    last_jiffy i h e =
        cell_jiffy f v first os js i h
        ∙ ap (λ (k : ℕ). time_of (meanings (played_in f v)) k / 384) (omega (arith, e))

    -- No jiffy listed is greater.
    pub every_jiffy : (i : ℕ) → i < count_in f v first os
        → get_or (window_in f v first os js).jiffies i 0 ≤ end_of (played_in f v) / 384
    unfolding end_of jiffy_of
    every_jiffy i h =
        omega (
          arith,
          cell_jiffy f v first os js i h,
          jiffies_rise (meanings (played_in f v)) (first + i)
              (length (played_in f v) - 1) (omega arith),
        )
