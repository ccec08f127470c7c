-- An event in its turn, for the contract of the code that works it out.
-- Timed    the pair is there, and its offset and jiffy fit their numbers
-- turn_of   the offset and the jiffy of an event, and the clock after it
use Rattle.std.specs.Prelude.{ℕ, ◌+◌, ◌*◌, ◌/◌, ◌<◌, ◌≤◌, List, length}
use Rattle.refusals.specs.Numbers.{Outcome}
use Rattle.meaning.specs.declared.Meaning.{Meaning}
use Rattle.clock.specs.Lengths.{length_of, values_after}
use Rattle.walk.specs.declared.turn.Clock.{Clock}
use Rattle.walk.specs.declared.turn.Turn.{Turn}

pub record Timed (bs : List ℕ) (base at : ℕ) (before : Clock) : Type 0 where
  pub there : 2 * at + 1 < length bs
  pub short : length bs ≤ 65536
  pub low : base ≤ 65536
  pub early : before.time ≤ 180388626432

abbrev pub turn_of : ℕ → ℕ → Clock → Outcome Meaning → Turn
turn_of base at before m =
    record {
      offset = base + 2 * at;
      jiffy = before.time / 384;
      after = record { time = before.time + length_of before.values m; values = values_after before.values m };
    }
