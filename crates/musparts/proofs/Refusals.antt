-- The refusals of a text line, of a file's head and of a voice's length have a number above 0 and a small
-- place.
-- line_low, head-low, length-low   so of them
use Prim.Native.Nat.{ℕ}
use mathlib.Core.List.{List}
use Rattle.refusals.specs.Numbers.{Outcome}
use Rattle.refusals.specs.Numbers.Outcome.{accepted, refused}
use Rattle.refusals.specs.Tests.{and_then}
use Rattle.container.specs.Head.{head_of, voices_of, head_tests, head_outcome}
use Rattle.mus.specs.declared.Voice.{Voice}
use Rattle.mus.specs.declared.Song.{Song}
use Rattle.mus.specs.Song.{mus_outcome}
use Rattle.mus.specs.Asked.{voice_asked}
use Rattle.mus.specs.Text.{song_line, line_asked}
use Rattle.events.specs.Listing.{played_in}
use Rattle.voicelength.specs.Length.{end_of, length_asked}
use Rattle.answers.specs.Apart.{LowPlace, tests_low}
use Rattle.muscalls.proofs.Places.{mus_low, asked_low}

pub line_low : (f : List ℕ) (n : ℕ) → LowPlace (line_asked f n)
unfolding line_asked
line_low f n = go (mus_outcome f) (mus_low f)
  where
    go : (o : Outcome Song) → LowPlace o → LowPlace (and_then o (λ s. accepted (song_line s n)))
    go (accepted s) l = tt
    go (refused number place) l = l

pub head-low : (f : List ℕ) → LowPlace (head_outcome f)
unfolding head_outcome
head-low f = tests_low (head_tests (head_of f)) (accepted (voices_of (head_of f))) tt

pub length-low : (f : List ℕ) (n : ℕ) → LowPlace (length_asked f n)
unfolding length_asked
length-low f n = go (voice_asked f n) (asked_low f n)
  where
    go : (o : Outcome Voice) → LowPlace o → LowPlace (and_then o (λ v. accepted (end_of (played_in f v))))
    go (accepted v) l = tt
    go (refused number place) l = l
