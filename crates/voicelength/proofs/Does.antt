-- The map of a voice says how long its played-out events last.
-- total, through               how long events last together, and the values after them
-- total_append, through_append   so for events put together
-- Does                         a map says both of some events
-- does_none, does_single, does_joined, does_copies   of nothing, of an event, of events put together
-- EachLinear                   each event lasts multiples of the values, as every pair of two bytes does
-- doing                        so for every body
-- map_says                     so for every voice of bytes in order
use Prim.Native.Nat.{ℕ, zero, suc, ◌+◌}
use mathlib.Core.Path.{◌≡◌, refl, sym, ◌∙◌, subst}
use mathlib.Core.List.{List, [], ◌∷◌, ◌++◌}
use native.Mathlib.Omega.{arith}
use Rattle.clock.specs.declared.Values.{Values}
use Rattle.clock.specs.Lengths.{values_after}
use Rattle.clock.specs.Times.{lengths, sum}
use Rattle.timemap.specs.declared.TimeMap.{TimeMap}
use Rattle.timemap.specs.Maps.{length_by, values_by, still, joined, passes}
use Rattle.timemap.specs.Laws.{joined_length, joined-values, passes-more}
use Rattle.pairmap.specs.Pairs.{single}
use Rattle.pairmap.specs.Linear.{Linear, pair_linear, single-length, single-values}
use Rattle.bodies.specs.Voice.{pairs}
use Rattle.bodies.specs.Bodies.{Event}
use Rattle.bodies.specs.Playing.{copies, playing, played}
use Rattle.bodies.specs.Faithful.{EachEvent}
use Rattle.bodies.proofs.Everywhere.{each_parts, each-pair, each-event}
use Rattle.bodies.proofs.Related.{Relation, related-voice}
use Rattle.walk.specs.Times.{meanings}
use Rattle.voicelength.specs.Lasting.{lasting, map_of, MapSays}

abbrev total : Values → List Event → ℕ
total q es = sum (lengths q (meanings es))

unfoldable through : Values → List Event → Values
through q [] = q
through q (e ∷ es) = through (values_after q e.meaning) es

total_append : (q : Values) (es fs : List Event) → total q (es ++ fs) ≡ total q es + total (through q es) fs
unfolding through lengths sum
total_append q [] fs = omega arith
total_append q (e ∷ es) fs = omega (arith, total_append (values_after q e.meaning) es fs)

through_append : (q : Values) (es fs : List Event) → through q (es ++ fs) ≡ through (through q es) fs
unfolding through
through_append q [] fs = refl
through_append q (e ∷ es) fs = through_append (values_after q e.meaning) es fs

abbrev Does : List Event → TimeMap → Type 0
Does es a = (q : Values) → (total q es ≡ length_by a q) × (through q es ≡ values_by a q)

does_none : Does [] still
unfolding through lengths sum length_by values_by
does_none q = (omega arith, refl)

does_single : (e : Event) → Linear e.meaning → Does (e ∷ []) (single e.meaning)
unfolding through lengths sum
does_single e h q = (omega (arith, single-length e.meaning h q), single-values e.meaning q)

does_joined : (es fs : List Event) (a b : TimeMap) → Does es a → Does fs b → Does (es ++ fs) (joined a b)
does_joined es fs a b h g q = (
  total_append q es fs ∙ rw ((h q).0, (h q).1, (g (values_by a q)).0) (sym (joined_length a b q)),
  through_append q es fs ∙ rw ((h q).1, (g (values_by a q)).1) (sym (joined-values a b q)),
)

abbrev EachLinear : List Event → Type 0
EachLinear es = EachEvent (λ e. Linear e.meaning) es

both : (es fs : List Event) → EachLinear (es ++ fs) → EachLinear es × EachLinear fs
both es fs h = each_parts (λ e. Linear e.meaning) es fs h

does_copies : (n : ℕ) (es : List Event) (a : TimeMap) → (EachLinear es → Does es a) → EachLinear (copies n es)
    → Does (copies n es) (passes n a)
unfolding copies
does_copies zero es a h l = unfold passes in does_none
does_copies (suc n) es a h l =
    let s = both es (copies n es) l in
    subst (Does (es ++ copies n es)) (sym (passes-more n a))
    (does_joined es (copies n es) a (passes n a) (h s.0) (does_copies n es a h s.1))

doing : Relation playing lasting (λ es a. EachLinear es → Does es a)
doing =
    record {
      nothing = λ l. does_none;
      plain =
          λ e es a h l. let s = both (e ∷ []) es l in does_joined (e ∷ []) es (single e.meaning) a
          (does_single e (unfold EachEvent in s.0.0)) (h s.1);
      repeated = λ t es fs a b h g l.
          let s = both (copies t es) fs l in
          does_joined (copies t es) fs (passes t a) b (does_copies t es a h s.0) (g s.1);
      defined = λ es fs a b h g l. let s = both es fs l in does_joined es fs a b (h s.0) (g s.1);
      called = λ es fs a b h g l. let s = both es fs l in does_joined es fs a b (h s.0) (g s.1);
    }

pub map_says : (bs : List ℕ) → MapSays bs
unfolding map_of played
map_says bs bytes s q =
    (related-voice playing lasting (λ es a. EachLinear es → Does es a) doing (pairs bs)
    (each-event (λ e. Linear e.meaning) (pairs bs) s
    (each-pair (λ e. Linear e.meaning) (λ i a b ha hb. pair_linear a b ha hb) 0 bs bytes)) q).0
