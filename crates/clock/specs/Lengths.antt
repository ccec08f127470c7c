-- Document 01, 'Playing a voice': 'Time is in 384ths of a jiffy: with tempo t a whole note is 384t, each next
-- value half of that; dotted 3/2, double dotted 7/4, triplet 2/3. Utility duration and voice are 384 × the
-- last UTL or UTV value, triplet two thirds. Absolute pitch and commands take 0.' Laws.antt shows that none
-- of the divisions drops a fraction.
-- at_start              'Each voice starts with t = 120, UTL = UTV = 0'
-- plain_length          a plain note's length by its duration
-- shaped               dotted, double dotted, triplet
-- note_length           a note's length
-- length_in, length_of   an event's length, by the values that hold at it
-- set_by, values_after   the values that hold after an event: 'until the next of the same kind'
use Rattle.std.specs.Prelude.{ℕ, ◌*◌, ◌/◌}
use Rattle.meaning.specs.declared.Duration.{Duration}
use Rattle.meaning.specs.declared.Duration.TheVariants.{Whole, Half, Quarter, Eighth, Sixteenth, ThirtySecond, SixtyFourth, UtilityDuration, UtilityVoice, AbsolutePitch}
use Rattle.meaning.specs.declared.Shape.{Shape}
use Rattle.meaning.specs.declared.Shape.TheVariants.{Plain, Dotted, DoubleDotted, Triplet}
use Rattle.meaning.specs.declared.Note.{Note}
use Rattle.meaning.specs.declared.Meaning.{Meaning}
use Rattle.refusals.specs.Numbers.{Outcome}
use Rattle.clock.specs.declared.Values.{Values}
use Rattle.clock.specs.Timing.{Timing, lasts, sets_tempo, sets_utl, sets_utv, no_time, timing_of}

abbrev pub at_start : Values
at_start = record { tempo = 120; utl = 0; utv = 0 }

abbrev pub plain_length : Values → Duration → ℕ
plain_length q Whole = 384 * q.tempo
plain_length q Half = 384 * q.tempo / 2
plain_length q Quarter = 384 * q.tempo / 4
plain_length q Eighth = 384 * q.tempo / 8
plain_length q Sixteenth = 384 * q.tempo / 16
plain_length q ThirtySecond = 384 * q.tempo / 32
plain_length q SixtyFourth = 384 * q.tempo / 64
plain_length q UtilityDuration = 384 * q.utl
plain_length q UtilityVoice = 384 * q.utv
plain_length q AbsolutePitch = 0

abbrev pub shaped : Shape → ℕ → ℕ
shaped Plain x = x
shaped Dotted x = 3 * x / 2
shaped DoubleDotted x = 7 * x / 4
shaped Triplet x = 2 * x / 3

abbrev pub note_length : Values → Note → ℕ
note_length q n = shaped n.shape (plain_length q n.duration)

abbrev pub length_in : Values → Timing → ℕ
length_in q (lasts n) = note_length q n
length_in q (sets_tempo v) = 0
length_in q (sets_utl v) = 0
length_in q (sets_utv v) = 0
length_in q no_time = 0

unfoldable pub length_of : Values → Outcome Meaning → ℕ
length_of q m = length_in q (timing_of m)

abbrev pub set_by : Values → Timing → Values
set_by q (lasts n) = q
set_by q (sets_tempo v) = record { tempo = v; utl = q.utl; utv = q.utv }
set_by q (sets_utl v) = record { tempo = q.tempo; utl = v; utv = q.utv }
set_by q (sets_utv v) = record { tempo = q.tempo; utl = q.utl; utv = v }
set_by q no_time = q

unfoldable pub values_after : Values → Outcome Meaning → Values
values_after q m = set_by q (timing_of m)
