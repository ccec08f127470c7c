-- Laws of a voice that a caller names, and what acceptance has shown of it.
-- voice-once                no two answers have the same outcome
-- number-first, file-next   41 by the number, then the outcome of the file
-- Asked, asked-accepted     any other answer is the voice of that number, of an accepted file
-- voice-bytes               a voice's bytes are those that the container gives it
-- in_song                   each voice of a song is as acceptance has reported it (InSong); the voice that is
--                           asked for too: proofs/Asked.antt
use Rattle.std.specs.Prelude.{Result, ℕ, zero, suc, ◌≤◌, ◌≡◌, refl, true, false, ◌||◌, List, [], ◌∷◌, eqb, ltb, length, take, drop}
use Rattle.std.proofs.Common.{ap, subst, arith, length-take, length-drop}
use Rattle.logic.specs.Cases.{cases}
use Rattle.fields.specs.declared.Span.{Span}
use Rattle.fields.specs.Parts.{part_of}
use Rattle.refusals.specs.declared.Refusal.{Refusal}
use Rattle.refusals.specs.Numbers.{outcome_of}
use Rattle.refusals.specs.Numbers.Outcome.{accepted, refused}
use Rattle.refusals.specs.Tests.{first_of, and_then}
use Rattle.refusals.specs.Laws.{passed_none, accepted-once, guarded-passed, outcome-once}
use Rattle.container.specs.Head.{head_of, voices_of, voice_span}
use Rattle.container.specs.Layout.{layout_of}
use Rattle.container.specs.Laws.{VoiceFits, short-file, voice1-fits, voice2-fits, voice3-fits}
use Rattle.bodies.specs.Voice.{pairs}
use Rattle.mus.specs.declared.Voice.{Voice}
use Rattle.mus.specs.declared.Song.{Song}
use Rattle.mus.specs.Song.{mus_outcome}
use Rattle.mus.specs.Asked.{number_tests, song_voice, asked_by, voice_asked, bytes_of}
use Rattle.mus.specs.Acceptance.{Passes, voice_report, song_of, accepted-clear, then_given}
use Rattle.mus.specs.Bounds.{InSong}

-- No two answers have the same outcome.
pub voice-once : (a b : Result Voice Refusal) → outcome_of a ≡ outcome_of b → a ≡ b
voice-once = outcome-once

-- What an answer other than a refusal says: the number is 1 to 3, the file is accepted, and the voice is that
-- one of it.
pub record Asked (f : List ℕ) (n : ℕ) (v : Voice) : Type 0 where
  pub number : ltb n 1 || ltb 3 n ≡ false
  pub song : Song
  pub file : mus_outcome f ≡ accepted song
  pub voice : song_voice song n ≡ v

module _ (f : List ℕ) (n : ℕ) where
  -- A number that is not 1 to 3 is 41, whatever the file ('41 voice not 1 to 3').
  pub number-first : ltb n 1 || ltb 3 n ≡ true → voice_asked f n ≡ refused 41 0
  unfolding asked_by
  number-first e = rw e

  -- For 1 to 3 the outcome is that of the file, and of an accepted one the voice with that number.
  pub file-next : ltb n 1 || ltb 3 n ≡ false → voice_asked f n ≡ and_then (mus_outcome f) (λ s. accepted (song_voice s n))
  unfolding asked_by
  file-next e = rw e

  -- An answer with a voice is as Asked says.
  pub asked-accepted : (v : Voice) → voice_asked f n ≡ accepted v → Asked f n v
  unfolding asked_by
  asked-accepted v e =
      let passed = guarded-passed (first_of (number_tests n)) (and_then (mus_outcome f) (λ s. accepted (song_voice s n))) v e in
      let given = then_given (mus_outcome f) (λ s. accepted (song_voice s n)) v passed.1 in
      record {
        number = (passed_none (number_tests n) passed.0).0;
        song = given.value;
        file = given.was;
        voice = accepted-once given.gives;
      }

-- a part of a list, taken by its own length
take_own : (n : ℕ) (l : List ℕ) → take (length (take n l)) l ≡ take n l
take_own zero l = refl
take_own (suc n) [] = refl
take_own (suc n) (x ∷ l) = ap (λ (r : List ℕ). x ∷ r) (take_own n l)

-- The bytes of a voice of an accepted file, by its number, are those that the container gives this voice.
pub voice-bytes : (f : List ℕ) (s : Song) (n : ℕ) → mus_outcome f ≡ accepted s
    → bytes_of f (song_voice s n) ≡ part_of f (voice_span (voices_of (head_of f)) n)
unfolding song_of layout_of
voice-bytes f s n e =
    let l = layout_of f in
    let own : (x : Span) → take (length (part_of f x)) (drop x.from f) ≡ part_of f x =
    λ x. take_own x.len (drop x.from f) in
    subst (λ (x : Song). bytes_of f (song_voice x n) ≡ part_of f (voice_span (voices_of (head_of f)) n)) (accepted-clear f s e).1
    (cases (eqb n 1) (λ a. rw a (own l.voice1))
    (λ a. cases (eqb n 2) (λ b. rw (a, b) (own l.voice2)) (λ b. rw (a, b) (own l.voice3))))

-- a voice where its span lies; 23 lets no voice of 0 or an odd number of bytes pass
span_in : (f : List ℕ) (s : Span) → Passes (pairs (part_of f s)) → length f ≤ 65536 → VoiceFits f s
    → InSong f (voice_report s.from (part_of f s))
span_in f s p short fits =
    let own = take_own s.len (drop s.from f) in
    record {
      passes = rw own p;
      stored = rw own (omega (
        arith,
        length-take s.len (drop s.from f),
        length-drop s.from f,
        fits.0,
        fits.1,
        fits.2,
      ));
      short = short;
      low = omega (arith, fits.2);
      events = rw own;
      walked = rw own;
    }

-- A voice of an accepted file, by its number, is as acceptance has reported it.
pub in_song : (f : List ℕ) (s : Song) (n : ℕ) → mus_outcome f ≡ accepted s → InSong f (song_voice s n)
unfolding song_of
in_song f s n e =
    let c = accepted-clear f s e in
    let k = c.0.container in
    let short = short-file f k in
    subst (λ (x : Song). InSong f (song_voice x n)) c.1
    (cases (eqb n 1) (λ a. rw a (span_in f (layout_of f).voice1 c.0.voice1 short (voice1-fits f k)))
    (λ a. cases (eqb n 2) (λ b. rw (a, b) (span_in f (layout_of f).voice2 c.0.voice2 short (voice2-fits f k)))
    (λ b. rw (a, b) (span_in f (layout_of f).voice3 c.0.voice3 short (voice3-fits f k)))))
