-- Document 01, 'Playing a voice': 'An event's exact time is the sum of the lengths of all events before it
-- there, 0 for event 0. Its jiffy is that sum in 384ths divided by 384, rounded down'. Of the events only
-- what they mean counts here, in played order.
-- lengths   each event's length, by the values that hold before the first: 'TEM, UTL and UTV hold for the
--           events after them there'
-- sum       the sum of some lengths
-- time_of    the exact time of an event by its number, in 384ths
-- jiffy_of   its jiffy
-- numbers   so many numbers from one on: 'its events numbered from 0'
-- jiffies   the jiffies of all events
use Rattle.std.specs.Prelude.{ℕ, zero, suc, ◌+◌, ◌/◌, List, [], ◌∷◌, map, length, take}
use Rattle.meaning.specs.declared.Meaning.{Meaning}
use Rattle.refusals.specs.Numbers.{Outcome}
use Rattle.clock.specs.declared.Values.{Values}
use Rattle.clock.specs.Lengths.{at_start, length_of, values_after}

unfoldable pub lengths : Values → List (Outcome Meaning) → List ℕ
lengths q [] = []
lengths q (m ∷ ms) = length_of q m ∷ lengths (values_after q m) ms

unfoldable pub sum : List ℕ → ℕ
sum [] = 0
sum (x ∷ xs) = x + sum xs

unfoldable pub time_of : List (Outcome Meaning) → ℕ → ℕ
time_of ms i = sum (take i (lengths at_start ms))

unfoldable pub jiffy_of : List (Outcome Meaning) → ℕ → ℕ
jiffy_of ms i = time_of ms i / 384

unfoldable pub numbers : ℕ → ℕ → List ℕ
numbers i zero = []
numbers i (suc n) = i ∷ numbers (i + 1) n

unfoldable pub jiffies : List (Outcome Meaning) → List ℕ
jiffies ms = map (λ (i : ℕ). jiffy_of ms i) (numbers 0 (length ms))
