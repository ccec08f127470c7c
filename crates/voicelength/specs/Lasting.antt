-- Document 02 (iii): the length of a body as a map of the tempo, UTL and UTV that it starts with, one more
-- interpretation of bodies (crates/bodies/specs/Playing.antt).
-- lasting   the map of a body: pairs by crates/pairmap/specs/Pairs.antt, put together by
--           crates/timemap/specs/Maps.antt
-- map_of     the map of a voice
-- MapSays   it says how long the played-out voice lasts (which values it leaves: proofs/Does.antt)
use Rattle.std.specs.Prelude.{ℕ, ◌<◌, ◌≡◌, List, get_or}
use Rattle.meaning.specs.declared.Meaning.{Meaning}
use Rattle.refusals.specs.Numbers.{Outcome}
use Rattle.clock.specs.declared.Values.{Values}
use Rattle.clock.specs.Times.{lengths, sum}
use Rattle.timemap.specs.declared.TimeMap.{TimeMap}
use Rattle.timemap.specs.Maps.{length_by, still, joined, passes}
use Rattle.pairmap.specs.Pairs.{single}
use Rattle.bodies.specs.Voice.{pairs}
use Rattle.bodies.specs.Playing.{Interpretation, of_voice, played}
use Rattle.bodies.specs.Order.{Sound}
use Rattle.walk.specs.Times.{meanings}

abbrev pub lasting : Interpretation TimeMap
lasting =
    record {
      nothing = still;
      plain = λ e r. joined (single e.meaning) r;
      repeated = λ n b r. joined (passes n b) r;
      defined = λ b r. joined b r;
      called = λ b r. joined b r;
    }

unfoldable pub map_of : List (Outcome Meaning) → TimeMap
map_of v = of_voice lasting v

-- Of a voice of bytes that is one body, in order and shut (Sound, which 30 shows): from any values on, its
-- played-out events last together what its map says.
abbrev pub MapSays : List ℕ → Type 0
MapSays bs =
    ((k : ℕ) → get_or bs k 0 < 256) → Sound (pairs bs) → (q : Values)
    → sum (lengths q (meanings (played (pairs bs)))) ≡ length_by (map_of (pairs bs)) q
