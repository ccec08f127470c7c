-- What acceptance has shown of a voice and of a song, as specs/AcceptedVoice.antt states it.
-- accepted-sound     a voice to which none of 27 to 33 applies is one body, its DEFs and CALs in order, each
--                    opener closed by its own closer
-- accepted-voice     all that is stated of its stored pairs, where it has one
-- accepted-song      all that is stated of an accepted file
-- acceptance_shows   both
use Prim.Native.Nat.{ℕ, ◌<◌}
use mathlib.Core.Path.{◌≡◌}
use mathlib.Core.List.{List, [], ◌∷◌}
use native.Mathlib.Omega.{arith}
use lib.ListN.{length}
use borrow.Author.Tests.{ltb-false}
use Rattle.meaning.specs.declared.Meaning.{Meaning}
use Rattle.refusals.specs.Numbers.{Outcome}
use Rattle.refusals.specs.Numbers.Outcome.{accepted}
use Rattle.pair.specs.Pairs.{meaning_of}
use Rattle.bodies.specs.Voice as voice
use Rattle.bodies.specs.Playing.{walked_of, depth_of, played}
use Rattle.bodies.specs.Order.{Sound}
use Rattle.bodies.specs.Faithful.{EndsInHlt}
use Rattle.bodies.proofs.ReadBack.{read_back, only-events}
use Rattle.bodies.proofs.Phrases.{call-stands}
use Rattle.bodies.proofs.Related.{events-walked}
use Rattle.structure.proofs.Sound.{sound}
use Rattle.structure.proofs.LetPass.{all_mean, voice-halts}
use Rattle.mus.specs.declared.Voice.{Voice}
use Rattle.mus.specs.declared.Song.{Song}
use Rattle.mus.specs.Song.{mus_outcome}
use Rattle.mus.specs.Acceptance.{Passes}
use Rattle.mus.specs.Bounds.{InSong}
use Rattle.mus.specs.AskedLaws.{in_song}
use Rattle.mus.specs.AcceptedVoice.{AcceptedVoice, ReportedVoice, AcceptedSong, AcceptanceShows}

pub accepted-sound : (v : List (Outcome Meaning)) → Passes v → Sound v
accepted-sound v p = sound v p.pairs p.structure

voice-ends : (bs : List ℕ) → 1 < length bs → Passes (voice.pairs bs)
    → EndsInHlt (played (voice.pairs bs)) (length (voice.pairs bs))
unfolding voice.pairs_by voice.pairs
voice-ends [] h p = absurd (omega arith)
voice-ends (a ∷ []) h p = absurd (omega arith)
voice-ends (a ∷ b ∷ bs) h p = voice-halts (meaning_of a b) (voice.pairs bs) p.pairs p.structure

pub accepted-voice : (bs : List ℕ) → 1 < length bs → Passes (voice.pairs bs) → AcceptedVoice (voice.pairs bs)
accepted-voice bs h p =
    let v = voice.pairs bs in
    record {
      means = all_mean bs p.pairs;
      written = read_back v (accepted-sound v p);
      plain = only-events v;
      calls = λ m k c. call-stands m v k (accepted-sound v p) c;
      ends = voice-ends bs h p;
      depth = ltb-false 16 (depth_of v) p.limits.0;
      walked = ltb-false 1048576 (walked_of v) p.limits.1.0;
      events = events-walked v;
    }

reported : (f : List ℕ) (v : Voice) → InSong f v → ReportedVoice f v
reported f v i =
    let shown = accepted-voice _ i.stored i.passes in
    record { stored = shown; events = i.events; walked = i.walked; few = rw i.walked shown.walked }

pub accepted-song : (f : List ℕ) (s : Song) → mus_outcome f ≡ accepted s → AcceptedSong f s
accepted-song f s e =
    record {
      voice1 = reported f s.voice1 (in_song f s 1 e);
      voice2 = reported f s.voice2 (in_song f s 2 e);
      voice3 = reported f s.voice3 (in_song f s 3 e);
    }

pub acceptance_shows : AcceptanceShows
acceptance_shows = record { voice = accepted-voice; song = accepted-song }
