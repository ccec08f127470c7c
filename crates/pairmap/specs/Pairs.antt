-- Document 02 (iii): one event as a map of the tempo, UTL and UTV before it (crates/timemap/specs/Maps.antt).
-- Linear.antt shows that it says how long the event lasts.
-- tempo1, utl1, utv1, ones       one of the three values is 1 and the others are 0; all three are 1
-- tempo_left, utl_left, utv_left    where an event leaves a value: at what it sets, or as it was
-- multiples                      multiples of the three values, all left as they were
-- leaving                        no length, and values left so
-- setting_map                     by what an event sets
-- single                         of one event: its multiples are its lengths where one value is 1
-- For the contracts of the code:
-- note_map                        of a note by its first byte and its length where all three values are 1
-- more, left_at                   a map with more length, and with other values left
use Rattle.std.specs.Prelude.{ℕ, ◌+◌, ◌/◌, ◌%◌, cond, eqb}
use Rattle.meaning.specs.declared.Meaning.{Meaning}
use Rattle.refusals.specs.Numbers.{Outcome}
use Rattle.clock.specs.declared.Values.{Values}
use Rattle.clock.specs.Timing.{Timing, lasts, sets_tempo, sets_utl, sets_utv, no_time, timing_of}
use Rattle.clock.specs.Lengths.{length_of}
use Rattle.timemap.specs.declared.TimeMap.{TimeMap}
use Rattle.timemap.specs.Maps.{Left, as_it_was, set_to}

abbrev pub tempo1 : Values
tempo1 = record { tempo = 1; utl = 0; utv = 0 }

abbrev pub utl1 : Values
utl1 = record { tempo = 0; utl = 1; utv = 0 }

abbrev pub utv1 : Values
utv1 = record { tempo = 0; utl = 0; utv = 1 }

abbrev pub ones : Values
ones = record { tempo = 1; utl = 1; utv = 1 }

abbrev pub tempo_left : Timing → Left
tempo_left (lasts n) = as_it_was
tempo_left (sets_tempo v) = set_to v
tempo_left (sets_utl v) = as_it_was
tempo_left (sets_utv v) = as_it_was
tempo_left no_time = as_it_was

abbrev pub utl_left : Timing → Left
utl_left (lasts n) = as_it_was
utl_left (sets_tempo v) = as_it_was
utl_left (sets_utl v) = set_to v
utl_left (sets_utv v) = as_it_was
utl_left no_time = as_it_was

abbrev pub utv_left : Timing → Left
utv_left (lasts n) = as_it_was
utv_left (sets_tempo v) = as_it_was
utv_left (sets_utl v) = as_it_was
utv_left (sets_utv v) = set_to v
utv_left no_time = as_it_was

abbrev pub multiples : ℕ → ℕ → ℕ → TimeMap
multiples tempos utls utvs =
    record { fixed = 0; tempos = tempos; utls = utls; utvs = utvs; tempo = as_it_was; utl = as_it_was; utv = as_it_was }

abbrev pub leaving : Left → Left → Left → TimeMap
leaving tempo utl utv = record { fixed = 0; tempos = 0; utls = 0; utvs = 0; tempo = tempo; utl = utl; utv = utv }

abbrev pub setting_map : Timing → TimeMap
setting_map t = leaving (tempo_left t) (utl_left t) (utv_left t)

unfoldable pub single : Outcome Meaning → TimeMap
single m =
    record {
      fixed = 0;
      tempos = length_of tempo1 m;
      utls = length_of utl1 m;
      utvs = length_of utv1 m;
      tempo = tempo_left (timing_of m);
      utl = utl_left (timing_of m);
      utv = utv_left (timing_of m);
    }

abbrev pub note_map : ℕ → ℕ → TimeMap
note_map a n = cond (eqb (a / 4 % 8) 1) (cond (eqb (a / 32 % 2) 0) (multiples 0 n 0) (multiples 0 0 n)) (multiples n 0 0)

abbrev pub more : TimeMap → ℕ → ℕ → ℕ → ℕ → TimeMap
more a fixed tempos utls utvs =
    record {
      fixed = a.fixed + fixed;
      tempos = a.tempos + tempos;
      utls = a.utls + utls;
      utvs = a.utvs + utvs;
      tempo = a.tempo;
      utl = a.utl;
      utv = a.utv;
    }

abbrev pub left_at : TimeMap → Left → Left → Left → TimeMap
left_at a tempo utl utv =
    record { fixed = a.fixed; tempos = a.tempos; utls = a.utls; utvs = a.utvs; tempo = tempo; utl = utl; utv = utv }
