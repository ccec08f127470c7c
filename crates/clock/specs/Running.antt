-- The jiffies of a voice's events as a run through them finds them, by the time and the values so far, and
-- how great those get.
-- jiffies_from                  each event's jiffy, from a time and the values that hold
-- length-jiffies, jiffies_at   there is one for each event: 'its jiffy is that sum in 384ths divided by 384,
--                              rounded down'
-- jiffies-from                 the run from 0 and the values at the start finds these
-- ByteValues                   the values that bytes can set: 'TEM 0 means 256'
-- start-byte-values, byte-values-after   the values of every voice are such
-- length-bound                 no event is longer than a double dotted whole note at tempo 256
use Rattle.std.specs.Prelude.{ℕ, zero, suc, ◌+◌, ◌/◌, ◌≤◌, ◌<◌, ◌≡◌, refl, List, [], ◌∷◌, map, eqb, length, take, get_or}
use Rattle.std.proofs.Common.{ap, sym, ◌∙◌, arith, not-suc-le-zero, le_of_suc-le-suc, lit≤, ext_get_or}
use Rattle.std.proofs.lemmas.List.{length-map}
use Rattle.meaning.specs.declared.Duration.{Duration}
use Rattle.meaning.specs.declared.Duration.TheVariants.{Whole, Half, Quarter, Eighth, Sixteenth, ThirtySecond, SixtyFourth, UtilityDuration, UtilityVoice, AbsolutePitch}
use Rattle.meaning.specs.declared.Shape.{Shape}
use Rattle.meaning.specs.declared.Shape.TheVariants.{Plain, Dotted, DoubleDotted, Triplet}
use Rattle.meaning.specs.declared.Meaning.{Meaning}
use Rattle.logic.specs.Cases.{cases}
use Rattle.refusals.specs.Numbers.{Outcome}
use Rattle.command.specs.Others.{tempo_of}
use Rattle.pair.specs.Pairs.{meaning_of}
use Rattle.clock.specs.declared.Values.{Values}
use Rattle.clock.specs.Timing.{Timing, lasts, sets_tempo, sets_utl, sets_utv, no_time, timing_of}
use Rattle.clock.specs.Lengths.{at_start, plain_length, shaped, length_in, length_of, values_after}
use Rattle.clock.specs.Times.{lengths, sum, time_of, jiffy_of, numbers, jiffies}
use Rattle.clock.specs.Settings.{values_are}

unfoldable pub jiffies_from : ℕ → Values → List (Outcome Meaning) → List ℕ
jiffies_from t q [] = []
jiffies_from t q (m ∷ ms) = t / 384 ∷ jiffies_from (t + length_of q m) (values_after q m) ms

length-numbers : (k n : ℕ) → length (numbers k n) ≡ n
unfolding numbers
length-numbers k zero = refl
length-numbers k (suc n) = ap suc (length-numbers (k + 1) n)

numbers_at : (f : ℕ → ℕ) (k n i : ℕ) → i < n → get_or (map f (numbers k n)) i 0 ≡ f (k + i)
unfolding numbers
numbers_at f k zero i h = absurd (not-suc-le-zero h)
numbers_at f k (suc n) zero h = ap f (omega arith)
numbers_at f k (suc n) (suc i) h = numbers_at f (k + 1) n i (le_of_suc-le-suc h) ∙ ap f (omega arith)

-- There is one jiffy for each event.
pub length-jiffies : (ms : List (Outcome Meaning)) → length (jiffies ms) ≡ length ms
unfolding jiffies
length-jiffies ms = length-map (numbers 0 (length ms)) (jiffy_of ms) ∙ length-numbers 0 (length ms)

-- Jiffy i of the list is the jiffy of event i, for each i below the number of events.
pub jiffies_at : (ms : List (Outcome Meaning)) (i : ℕ) → i < length ms → get_or (jiffies ms) i 0 ≡ jiffy_of ms i
unfolding jiffies
jiffies_at ms i h = numbers_at (jiffy_of ms) 0 (length ms) i h ∙ ap (jiffy_of ms) (omega arith)

length_from : (t : ℕ) (q : Values) (ms : List (Outcome Meaning)) → length (jiffies_from t q ms) ≡ length ms
unfolding jiffies_from
length_from t q [] = refl
length_from t q (m ∷ ms) = ap suc (length_from (t + length_of q m) (values_after q m) ms)

from_at : (t : ℕ) (q : Values) (ms : List (Outcome Meaning)) (i : ℕ) → i < length ms
    → get_or (jiffies_from t q ms) i 0 ≡ (t + sum (take i (lengths q ms))) / 384
unfolding jiffies_from lengths sum
from_at t q [] i h = absurd (not-suc-le-zero h)
from_at t q (m ∷ ms) zero h = omega arith
from_at t q (m ∷ ms) (suc i) h = from_at (t + length_of q m) (values_after q m) ms i (le_of_suc-le-suc h) ∙ ap (λ (x : ℕ). x / 384) (omega arith)

-- The run from time 0 and the values at the start finds the jiffies of the events.
pub jiffies-from : (ms : List (Outcome Meaning)) → jiffies ms ≡ jiffies_from 0 at_start ms
unfolding jiffy_of time_of
jiffies-from ms =
    ext_get_or 0 (jiffies ms) (jiffies_from 0 at_start ms) (length-jiffies ms ∙ sym (length_from 0 at_start ms))
    (λ i h. let b : i < length ms = rw length-jiffies at h in jiffies_at ms i b ∙ omega (arith, from_at 0 at_start ms i b))

pub record ByteValues (q : Values) : Type 0 where
  pub tempo : q.tempo ≤ 256
  pub utl : q.utl ≤ 255
  pub utv : q.utv ≤ 255

-- The values at the start are in the bounds of ByteValues.
pub start-byte-values : ByteValues at_start
start-byte-values = record { tempo = lit≤ tt; utl = lit≤ tt; utv = lit≤ tt }

tempo-low : (b : ℕ) → b < 256 → tempo_of b ≤ 256
tempo-low b h = cases (eqb b 0) (λ e. rw e (lit≤ tt)) (λ e. rw e (omega arith))

-- Where the values are in these bounds, so are the values after a pair of bytes.
pub byte-values-after : (q : Values) (a b : ℕ) → a < 256 → b < 256 → ByteValues q → ByteValues (values_after q (meaning_of a b))
byte-values-after q a b ha hb m =
    rw (values_are q a b ha hb)
    (cases (eqb a 0x06) (λ s. rw s (record { tempo = tempo-low b hb; utl = m.utl; utv = m.utv }))
    (λ s. cases (eqb a 0x16) (λ t. rw (s, t) (record { tempo = m.tempo; utl = omega arith; utv = m.utv }))
    (λ t. cases (eqb a 0xF6) (λ u. rw (s, t, u) (record { tempo = m.tempo; utl = m.utl; utv = omega arith })) (λ u. rw (s, t, u) m))))

plain-bound : (q : Values) (d : Duration) → ByteValues q → plain_length q d ≤ 98304
plain-bound q Whole m = omega arith
plain-bound q Half m = omega arith
plain-bound q Quarter m = omega arith
plain-bound q Eighth m = omega arith
plain-bound q Sixteenth m = omega arith
plain-bound q ThirtySecond m = omega arith
plain-bound q SixtyFourth m = omega arith
plain-bound q UtilityDuration m = omega arith
plain-bound q UtilityVoice m = omega arith
plain-bound q AbsolutePitch m = omega arith

shaped-bound : (s : Shape) (x : ℕ) → x ≤ 98304 → shaped s x ≤ 172032
shaped-bound Plain x h = omega arith
shaped-bound Dotted x h = omega arith
shaped-bound DoubleDotted x h = omega arith
shaped-bound Triplet x h = omega arith

-- Where the values are in these bounds, the length of an event is at most 172,032 384ths of a jiffy.
pub length-bound : (q : Values) (m : Outcome Meaning) → ByteValues q → length_of q m ≤ 172032
unfolding length_of
length-bound q m h = go (timing_of m)
  where
    go : (t : Timing) → length_in q t ≤ 172032
    go (lasts n) = shaped-bound n.shape (plain_length q n.duration) (plain-bound q n.duration h)
    go (sets_tempo v) = omega arith
    go (sets_utl v) = omega arith
    go (sets_utv v) = omega arith
    go no_time = omega arith
