-- Document 01, 'Playing a voice': each event of a played-out voice with its offset and its jiffy.
-- offsets_of    'its offset is where its pair stands in the file': of each event, where the voice's first
--              pair stands at base
-- meanings     what each event means
-- jiffies_of    the jiffy of each event, by the exact times of crates/clock/specs/Times.antt
use Rattle.std.specs.Prelude.{ℕ, ◌+◌, ◌*◌, List, map}
use Rattle.meaning.specs.declared.Meaning.{Meaning}
use Rattle.refusals.specs.Numbers.{Outcome}
use Rattle.clock.specs.Times.{jiffies}
use Rattle.bodies.specs.Bodies.{Event}

unfoldable pub offsets_of : ℕ → List Event → List ℕ
offsets_of base es = map (λ (e : Event). base + 2 * e.number) es

abbrev pub meanings : List Event → List (Outcome Meaning)
meanings es = map (λ (e : Event). e.meaning) es

unfoldable pub jiffies_of : List Event → List ℕ
jiffies_of es = jiffies (meanings es)
