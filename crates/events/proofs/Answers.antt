-- A listing by the way that the code goes through it.
-- part_listable, part-listed   the walk over a voice: what it may count on, and what it leaves
-- voice-refused, lengths-refused, voice-answered   a call by its tests and the voice
use Prim.Native.Nat.{ℕ, ◌-◌, min}
use mathlib.Core.Path.{◌≡◌}
use mathlib.Core.Bool.{true, false, ◌||◌}
use mathlib.Core.List.{List}
use native.Mathlib.Omega.{arith}
use lib.Dec.{ltb}
use lib.ListN.{length, drop, length-take, length-drop}
use borrow.Author.Tests.{eq-eqb, ne_eqb}
use Rattle.refusals.specs.Numbers.{Outcome}
use Rattle.refusals.specs.Numbers.Outcome.{accepted, refused}
use Rattle.bodies.specs.Voice.{pairs}
use Rattle.bodies.specs.Playing.{played, events_of}
use Rattle.mus.specs.declared.Voice.{Voice}
use Rattle.mus.specs.Asked.{voice_asked, bytes_of}
use Rattle.mus.specs.Bounds.{InSong}
use Rattle.cells.specs.Window.{filled}
use Rattle.walk.specs.Times.{offsets_of, jiffies_of}
use Rattle.walk.specs.Bounds.{Listable}
use Rattle.events.specs.Listing.{played_by, played_in, Listing, window_in, filled_by, listing_by, listing}

abbrev left : Outcome ℕ → List ℕ → List ℕ → Listing
left answer os js = record { answer = answer; offsets = os; jiffies = js }

module _ (f : List ℕ) (v : Voice) (first : ℕ) (os js : List ℕ) (i : InSong f v) {bs : List ℕ} {count : ℕ} (b : bs ≡ bytes_of f v) (n : count ≡ min (length os) (v.events - first)) where
  pub part_listable : length os ≡ length js → Listable bs v.offset first count v.walked os js
  part_listable same =
      rw b
      record {
        passes = i.passes;
        short = omega (arith, i.short, length-take v.length (drop v.offset f), length-drop v.offset f);
        low = i.low;
        steps = i.walked;
        enough = omega (arith, i.events);
        offsets-room = omega arith;
        jiffies-room = omega arith;
      }

  pub part-listed : {os' js' : List ℕ} → os' ≡ filled first count (offsets_of v.offset (played (pairs bs))) os → js' ≡ filled first count (jiffies_of (played (pairs bs))) js
      → left (accepted count) os' js' ≡ window_in f v first os js
  unfolding played_by events_of
  part-listed eo ej = rw (eo, ej, n, b, i.events)

module _ (f : List ℕ) (voice first : ℕ) (os js : List ℕ) where
  pub voice-refused : ltb voice 1 || ltb 3 voice ≡ true → left (refused 41 0) os js ≡ listing f voice first os js
  unfolding listing_by
  voice-refused e = rw e

  module _ (inside : ltb voice 1 || ltb 3 voice ≡ false) where
    pub lengths-refused : (length os ≡ length js → ⊥) → left (refused 42 0) os js ≡ listing f voice first os js
    unfolding listing_by
    lengths-refused n = rw (inside, ne_eqb (length os) (length js) n)

    pub voice-answered : length os ≡ length js → (o : Outcome Voice) → o ≡ voice_asked f voice
        → filled_by (played_in f) first os js o ≡ listing f voice first os js
    unfolding listing_by
    voice-answered e o q = rw (inside, eq-eqb (length os) (length js) e, q)
