-- Document 02 (iii): 'a body's length is a fixed number plus fixed multiples of those it starts with' (the
-- tempo, UTL and UTV). The maps of pairs are in crates/pairmap/specs. Laws.antt shows what a map made of maps
-- says.
-- Left, as_it_was, set_to  where a body leaves a value: as it was, or set to one
-- left                  the value after it, by the value before it
-- length_by, values_by    how long a body lasts and which values it leaves, by the values before it
-- still                 of nothing
-- fixed_part, open_part   of n multiples of a value: what they come to where an earlier body sets the value,
--                       and how many still go by the value before both
-- later                 where two bodies, one after the other, leave a value
-- under                 of a and b, one after the other: the map of b by the values before a
-- plus                  a length and n times another, with what the other leaves
-- joined                two bodies, one after the other
-- passes                n passes over a body: 'every pass from the second on starts with the same tempo and
--                       utility values'
use Rattle.std.specs.Prelude.{ℕ, zero, suc, ◌+◌, ◌*◌, Option, Some, None}
use Rattle.std.specs.Option.{option_or}
use Rattle.clock.specs.declared.Values.{Values}
use Rattle.timemap.specs.declared.TimeMap.{TimeMap}

abbrev pub Left : Type 0
Left = Option ℕ

abbrev pub as_it_was : Left
as_it_was = None

abbrev pub set_to : ℕ → Left
set_to v = Some v

abbrev pub left : Left → ℕ → ℕ
left None x = x
left (Some v) x = v

unfoldable pub length_by : TimeMap → Values → ℕ
length_by a q = a.fixed + a.tempos * q.tempo + a.utls * q.utl + a.utvs * q.utv

unfoldable pub values_by : TimeMap → Values → Values
values_by a q = record { tempo = left a.tempo q.tempo; utl = left a.utl q.utl; utv = left a.utv q.utv }

abbrev pub still : TimeMap
still = record { fixed = 0; tempos = 0; utls = 0; utvs = 0; tempo = as_it_was; utl = as_it_was; utv = as_it_was }

abbrev pub fixed_part : Left → ℕ → ℕ
fixed_part None n = 0
fixed_part (Some v) n = n * v

abbrev pub open_part : {A : Type 0} → Option A → ℕ → ℕ
open_part None n = n
open_part (Some v) n = 0

abbrev pub later : Left → Left → Left
later l m = option_or m l

abbrev pub under : TimeMap → TimeMap → TimeMap
under a b =
    record {
      fixed = b.fixed + fixed_part a.tempo b.tempos + fixed_part a.utl b.utls + fixed_part a.utv b.utvs;
      tempos = open_part a.tempo b.tempos;
      utls = open_part a.utl b.utls;
      utvs = open_part a.utv b.utvs;
      tempo = later a.tempo b.tempo;
      utl = later a.utl b.utl;
      utv = later a.utv b.utv;
    }

abbrev pub plus : TimeMap → ℕ → TimeMap → TimeMap
plus a n b =
    record {
      fixed = a.fixed + n * b.fixed;
      tempos = a.tempos + n * b.tempos;
      utls = a.utls + n * b.utls;
      utvs = a.utvs + n * b.utvs;
      tempo = b.tempo;
      utl = b.utl;
      utv = b.utv;
    }

unfoldable pub joined : TimeMap → TimeMap → TimeMap
joined a b = plus a 1 (under a b)

unfoldable pub passes : ℕ → TimeMap → TimeMap
passes zero b = still
passes (suc n) b = plus b n (under b b)
