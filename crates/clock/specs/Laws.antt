-- Laws that show the lengths and times to be those of document 01, 'Playing a voice'.
-- dotted_exact, triplet_exact, double_dotted_exact   the shapes drop no fraction, but of a double dotted 64th
-- numerator, denominator    the fraction of a shape
-- parts_of_whole, whole_of     what part a value is, and of which length
-- never_dotted              no pair means a dotted or double dotted 64th
-- That no length of a note that a pair means drops a fraction stands in proofs/Exact.antt.
-- times_rise, jiffies_rise  exact times never fall, nor do jiffies
-- same_time                 events of equal exact time have one jiffy, also of different voices
-- eight_notes, eight-64ths   fractions are dropped of the sum, and not note by note
use Rattle.std.specs.Prelude.{ℕ, zero, suc, ◌*◌, ◌/◌, ◌≤◌, ◌<◌, ◌≡◌, refl, Bool, true, false, not, ◌||◌, List, [], ◌∷◌, ◌++◌, map, ◌⊎◌, T, eqb, take, replicate}
use Rattle.std.proofs.Common.{ap, inl, inr, ⊎_elim, arith, not-suc-le-zero, le_of_suc-le-suc}
use Rattle.meaning.specs.declared.Duration.{Duration}
use Rattle.meaning.specs.declared.Duration.TheVariants.{Whole, Half, Quarter, Eighth, Sixteenth, ThirtySecond, SixtyFourth, UtilityDuration, UtilityVoice, AbsolutePitch}
use Rattle.meaning.specs.declared.Shape.{Shape}
use Rattle.meaning.specs.declared.Shape.TheVariants.{Plain, Dotted, DoubleDotted, Triplet}
use Rattle.meaning.specs.declared.Meaning.{Meaning}
use Rattle.logic.specs.Every.{every_at}
use Rattle.refusals.specs.Numbers.{Outcome}
use Rattle.note.specs.Reading as Reading
use Rattle.note.specs.Reading.{note_of}
use Rattle.pair.specs.Pairs.{meaning_of}
use Rattle.clock.specs.declared.Values.{Values}
use Rattle.clock.specs.Lengths.{at_start, plain_length, shaped, length_of, values_after}
use Rattle.clock.specs.Times.{lengths, sum, time_of, jiffy_of}

twelves : (q : Values) (d : Duration) → ((k : ℕ) × (plain_length q d ≡ 12 * k)) ⊎ (d ≡ SixtyFourth)
twelves q Whole = inl (32 * q.tempo, omega arith)
twelves q Half = inl (16 * q.tempo, omega arith)
twelves q Quarter = inl (8 * q.tempo, omega arith)
twelves q Eighth = inl (4 * q.tempo, omega arith)
twelves q Sixteenth = inl (2 * q.tempo, omega arith)
twelves q ThirtySecond = inl (q.tempo, omega arith)
twelves q SixtyFourth = inr refl
twelves q UtilityDuration = inl (32 * q.utl, omega arith)
twelves q UtilityVoice = inl (32 * q.utv, omega arith)
twelves q AbsolutePitch = inl (0, refl)

sixes : (q : Values) (d : Duration) → (k : ℕ) × (plain_length q d ≡ 6 * k)
sixes q d = ⊎_elim (λ k. (2 * k.0, omega (arith, k.1))) (λ e. (q.tempo, rw e (omega arith))) (twelves q d)

-- 'dotted 3/2': a dotted length is exactly 3/2 of the plain one.
pub dotted_exact : (q : Values) (d : Duration) → 2 * shaped Dotted (plain_length q d) ≡ 3 * plain_length q d
dotted_exact q d = rw (sixes q d).1 (omega arith)

-- 'triplet 2/3': a triplet's length is exactly 2/3 of the plain one.
pub triplet_exact : (q : Values) (d : Duration) → 3 * shaped Triplet (plain_length q d) ≡ 2 * plain_length q d
triplet_exact q d = rw (sixes q d).1 (omega arith)

-- 'double dotted 7/4': a double dotted length is exactly 7/4 of the plain one, for every duration but a 64th.
pub double_dotted_exact : (q : Values) (d : Duration) → (d ≡ SixtyFourth → ⊥) → 4 * shaped DoubleDotted (plain_length q d) ≡ 7 * plain_length q d
double_dotted_exact q d n = ⊎_elim (λ k. rw k.1 (omega arith)) (λ e. absurd (n e)) (twelves q d)

abbrev pub numerator : Shape → ℕ
numerator Plain = 1
numerator Dotted = 3
numerator DoubleDotted = 7
numerator Triplet = 2

abbrev pub denominator : Shape → ℕ
denominator Plain = 1
denominator Dotted = 2
denominator DoubleDotted = 4
denominator Triplet = 3

abbrev pub parts_of_whole : Duration → ℕ
parts_of_whole Whole = 1
parts_of_whole Half = 2
parts_of_whole Quarter = 4
parts_of_whole Eighth = 8
parts_of_whole Sixteenth = 16
parts_of_whole ThirtySecond = 32
parts_of_whole SixtyFourth = 64
parts_of_whole UtilityDuration = 1
parts_of_whole UtilityVoice = 1
parts_of_whole AbsolutePitch = 1

abbrev pub whole_of : Values → Duration → ℕ
whole_of q Whole = 384 * q.tempo
whole_of q Half = 384 * q.tempo
whole_of q Quarter = 384 * q.tempo
whole_of q Eighth = 384 * q.tempo
whole_of q Sixteenth = 384 * q.tempo
whole_of q ThirtySecond = 384 * q.tempo
whole_of q SixtyFourth = 384 * q.tempo
whole_of q UtilityDuration = 384 * q.utl
whole_of q UtilityVoice = 384 * q.utv
whole_of q AbsolutePitch = 0

abbrev undotted : Shape → Bool
undotted Plain = true
undotted Dotted = false
undotted DoubleDotted = false
undotted Triplet = true

abbrev read_shape : ℕ → Bool
read_shape a = not (eqb (parts_of_whole (Reading.length_in_byte a).duration) 64) || undotted (Reading.length_in_byte a).shape

-- 'Code 0 otherwise is a 64th, triplet when bit 7 is set, and never dotted': a 64th is plain or a triplet.
pub never_dotted : (a : ℕ) → a < 256 → (Reading.length_in_byte a).duration ≡ SixtyFourth → ((Reading.length_in_byte a).shape ≡ Plain) ⊎ ((Reading.length_in_byte a).shape ≡ Triplet)
never_dotted a h e = go (Reading.length_in_byte a).shape (rw e at (every_at read_shape 256 tt a h))
  where
    go : (s : Shape) → T (undotted s) → (s ≡ Plain) ⊎ (s ≡ Triplet)
    go Plain t = inl refl
    go Dotted t = absurd t
    go DoubleDotted t = absurd t
    go Triplet t = inr refl

sums_rise : (xs : List ℕ) (i j : ℕ) → i ≤ j → sum (take i xs) ≤ sum (take j xs)
unfolding sum
sums_rise xs zero j h = omega arith
sums_rise xs (suc i) zero h = absurd (not-suc-le-zero h)
sums_rise [] (suc i) (suc j) h = omega arith
sums_rise (x ∷ xs) (suc i) (suc j) h = omega (arith, sums_rise xs i j (le_of_suc-le-suc h))

-- Exact times never fall from one event to a later one.
pub times_rise : (ms : List (Outcome Meaning)) (i j : ℕ) → i ≤ j → time_of ms i ≤ time_of ms j
unfolding time_of
times_rise ms i j h = sums_rise (lengths at_start ms) i j h

-- Jiffies never fall from one event to a later one.
pub jiffies_rise : (ms : List (Outcome Meaning)) (i j : ℕ) → i ≤ j → jiffy_of ms i ≤ jiffy_of ms j
unfolding jiffy_of
jiffies_rise ms i j h = omega (arith, times_rise ms i j h)

-- Events of equal exact time have one jiffy, whichever voices they are of.
pub same_time : (ms ns : List (Outcome Meaning)) (i j : ℕ) → time_of ms i ≡ time_of ns j → jiffy_of ms i ≡ jiffy_of ns j
unfolding jiffy_of
same_time ms ns i j e = ap (λ (t : ℕ). t / 384) e

abbrev pub eight_notes : List (Outcome Meaning)
eight_notes = replicate 8 (meaning_of 0x20 0x00) ++ (meaning_of 0x01 0x4F ∷ [])

-- 'Dropping fractions note by note (eight 64ths at t = 120 take 15 jiffies, not 8)': the exact sum gives 15,
-- the sum of the rounded lengths 8.
pub eight-64ths : (jiffy_of eight_notes 8 ≡ 15) × (sum (map (λ (x : ℕ). x / 384) (take 8 (lengths at_start eight_notes))) ≡ 8)
unfolding jiffy_of time_of sum lengths length_of values_after
eight-64ths = (refl, refl)
