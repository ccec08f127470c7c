-- Document 01, 'Playing a voice': 'The listing call takes a voice and a first event number and fills two lent
-- lists of 32-bit numbers, file offset and jiffy, until they are full or the voice has ended; it returns how
-- many, 0 past the end, and what lies beyond keeps its old content.' Demand 3 is the equation between a call
-- and listing, which is made of the played-out voice (crates/bodies/specs/Playing.antt), its exact times
-- (crates/clock/specs/Times.antt) and the lists as they were.
-- caller_tests       'voice not 1 to 3', 'two lists of unequal length': '40, 41 and 42 are tested before the
--                   file, in that order'
-- played_by          the played-out voice, where read is the way to read its pairs
-- played_in          the same with document 01's reader, pairs
-- count_of           'How many is the lesser of the lists' length and the number of events from the first one
--                   asked for to the end'
-- Listing           what a call leaves: its answer, and both lists
-- window_of          what it leaves for a voice with these events
-- window_in          what it leaves for a voice of a file
-- filled_by          what it leaves, by the voice or the refusal: 'A refusal .. changes no lent memory'
-- listing_by         what it leaves for a file: 41, then 42, then the file's own refusal, then the voice
--                   (crates/mus/specs/Asked.antt), where read is the way to read pairs
-- listing           the same with document 01's reader, pairs
use Rattle.std.specs.Prelude.{ℕ, ◌-◌, min, not, List, [], ◌∷◌, ◌++◌, eqb, length}
use Rattle.refusals.specs.declared.Reason.TheVariants.{ListLengths}
use Rattle.refusals.specs.Numbers.{Outcome}
use Rattle.refusals.specs.Numbers.Outcome.{accepted, refused}
use Rattle.refusals.specs.declared.Test.{Test}
use Rattle.refusals.specs.Tests.{test, first_of, guarded}
use Rattle.bodies.specs.Bodies.{Event}
use Rattle.bodies.specs.Voice.{Reader, pairs}
use Rattle.bodies.specs.Playing.{played}
use Rattle.mus.specs.declared.Voice.{Voice}
use Rattle.mus.specs.Asked.{number_tests, asked_by, bytes_of}
use Rattle.cells.specs.Window.{filled}
use Rattle.walk.specs.Times.{offsets_of, jiffies_of}

abbrev pub caller_tests : ℕ → ℕ → ℕ → List Test
caller_tests voice n m = number_tests voice ++ test ListLengths (not (eqb n m)) ∷ []

unfoldable pub played_by : Reader → List ℕ → Voice → List Event
played_by read f v = played (read (bytes_of f v))

abbrev pub played_in : List ℕ → Voice → List Event
played_in f v = played_by pairs f v

abbrev pub count_of : ℕ → ℕ → List Event → ℕ
count_of cells first es = min cells (length es - first)

pub record Listing : Type 0 where
  pub answer : Outcome ℕ
  pub offsets : List ℕ
  pub jiffies : List ℕ

abbrev pub window_of : Voice → List Event → ℕ → List ℕ → List ℕ → Listing
window_of v es first os js =
    record {
      answer = accepted (count_of (length os) first es);
      offsets = filled first (count_of (length os) first es) (offsets_of v.offset es) os;
      jiffies = filled first (count_of (length os) first es) (jiffies_of es) js;
    }

abbrev pub window_in : List ℕ → Voice → ℕ → List ℕ → List ℕ → Listing
window_in f v first os js = window_of v (played_in f v) first os js

abbrev pub filled_by : (Voice → List Event) → ℕ → List ℕ → List ℕ → Outcome Voice → Listing
filled_by events first os js (accepted v) = window_of v (events v) first os js
filled_by events first os js (refused number place) =
    record { answer = refused number place; offsets = os; jiffies = js }

unfoldable pub listing_by : Reader → List ℕ → ℕ → ℕ → List ℕ → List ℕ → Listing
listing_by read f voice first os js =
    filled_by (played_by read f) first os js
    (guarded (first_of (caller_tests voice (length os) (length js))) (asked_by read f voice))

abbrev pub listing : List ℕ → ℕ → ℕ → List ℕ → List ℕ → Listing
listing f voice first os js = listing_by pairs f voice first os js
