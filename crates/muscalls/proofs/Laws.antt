-- Each call of a MUS file tells a value from a refusal (`Apart`).
-- mus_answers   so for tt_mus_accept and tt_mus_list
use Prim.Native.Nat.{ℕ, ◌<◌}
use mathlib.Core.Path.{◌≡◌, sym, ◌∙◌, ap}
use mathlib.Core.List.{List}
use native.Mathlib.Omega.{arith}
use lib.Dec.{lit<}
use lib.ListN.{length}
use borrow.Author.Tests.{ltb-false}
use Rattle.refusals.specs.Numbers.Outcome.{accepted}
use Rattle.refusals.specs.Laws.{accepted-once}
use Rattle.bodies.specs.Voice.{pairs}
use Rattle.bodies.specs.Playing.{events_of, walked_of}
use Rattle.bodies.proofs.Related.{events-walked}
use Rattle.mus.specs.Song.{mus_outcome}
use Rattle.mus.specs.Asked.{song_voice, bytes_of}
use Rattle.mus.specs.AskedLaws.{in_song}
use Rattle.events.specs.Listing.{played_by, played_in, count_of, Listing, listing}
use Rattle.events.specs.Laws.{accepted-window}
use Rattle.answers.specs.Apart.{Apart, low-apart}
use Rattle.muscalls.specs.Lists.{song_numbers}
use Rattle.muscalls.specs.Statements.{MusAnswers}
use Rattle.muscalls.proofs.Places.{mus_low, list_low}

module _ (f : List ℕ) where
  -- a voice has at most 1,048,576 events
  list_apart : (voice first : ℕ) (os js : List ℕ) → Apart (λ count. count) (listing f voice first os js).answer
  unfolding played_by events_of
  list_apart voice first os js = low-apart (λ count. count) (listing f voice first os js).answer few (list_low f voice first os js)
    where
      few : (count : ℕ) → (listing f voice first os js).answer ≡ accepted count → count < 0x100000000
      few count e =
          let w = accepted-window f voice first os js e in
          let v = song_voice w.song voice in
          let i = in_song f w.song voice w.file in
          let walked = ltb-false 1048576 (walked_of (pairs (bytes_of f v))) i.passes.limits.1.0 in
          let is : count_of (length os) first (played_in f v) ≡ count =
          accepted-once (sym (ap (λ (l : Listing). l.answer) w.window) ∙ e) in
          omega (arith, is, walked, events-walked (pairs (bytes_of f v)))

  pub mus_answers : MusAnswers f
  mus_answers = record {
    accept_apart = low-apart (λ s. length (song_numbers s)) (mus_outcome f) (λ s e. lit< tt) (mus_low f);
    list_apart = list_apart;
  }
