-- Document 01, 'What comes back': '41 voice not 1 to 3', which is tested before the file. What a caller who
-- names a voice is answered.
-- number_tests   41
-- song_voice     a voice of a song by its number
-- asked_by       a voice by its number: 41, then the file's own refusal, then the voice, where read is the
--               way to read pairs
-- voice_asked    the same with document 01's reader, pairs
-- bytes_of       a voice's bytes in the file
use Rattle.std.specs.Prelude.{ℕ, ◌||◌, cond, List, [], ◌∷◌, eqb, ltb, take, drop}
use Rattle.refusals.specs.Numbers.{Outcome}
use Rattle.refusals.specs.declared.Reason.TheVariants.{VoiceNumber}
use Rattle.refusals.specs.Numbers.Outcome.{accepted}
use Rattle.refusals.specs.declared.Test.{Test}
use Rattle.refusals.specs.Tests.{test, first_of, guarded, and_then}
use Rattle.bodies.specs.Voice.{Reader, pairs}
use Rattle.mus.specs.declared.Voice.{Voice}
use Rattle.mus.specs.declared.Song.{Song}
use Rattle.mus.specs.Song.{song_by}

abbrev pub number_tests : ℕ → List Test
number_tests n = test VoiceNumber (ltb n 1 || ltb 3 n) ∷ []

abbrev pub song_voice : Song → ℕ → Voice
song_voice s n = cond (eqb n 1) s.voice1 (cond (eqb n 2) s.voice2 s.voice3)

unfoldable pub asked_by : Reader → List ℕ → ℕ → Outcome Voice
asked_by read f n = guarded (first_of (number_tests n)) (and_then (song_by read f) (λ s. accepted (song_voice s n)))

abbrev pub voice_asked : List ℕ → ℕ → Outcome Voice
voice_asked f n = asked_by pairs f n

abbrev pub bytes_of : List ℕ → Voice → List ℕ
bytes_of f v = take v.length (drop v.offset f)
