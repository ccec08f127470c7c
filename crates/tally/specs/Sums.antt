-- Document 01, 'Playing a voice': events, pairs walked and depth counted together, as code counts them.
-- Events and pairs walked stop at 1,048,577, one more than 33 lets pass; crates/counts/proofs/Capped.antt
-- shows that this never shows in an answer.
-- cap, join          two counts, one after the other
-- no_counts, single   of nothing, and of an event
-- more               an event more, with no stop: a voice is too short to need one at each event
-- passes             'repeat 1 + n × (body + 1)', and one deeper
-- standing           'DEF to END, body + 2'
-- again              'CAL, body + 2', and one deeper

use Rattle.std.specs.Prelude.{ℕ, ◌+◌, ◌*◌, min, max}
use Rattle.tally.specs.declared.Counts.{Counts}

abbrev pub cap : ℕ → ℕ
cap x = min x 1048577

unfoldable pub join : Counts → Counts → Counts
join a b = record { events = cap (a.events + b.events); walked = cap (a.walked + b.walked); depth = max a.depth b.depth }

abbrev pub no_counts : Counts
no_counts = record { events = 0; walked = 0; depth = 0 }

abbrev pub single : Counts
single = record { events = 1; walked = 1; depth = 0 }

abbrev pub more : Counts → Counts
more a = record { events = a.events + 1; walked = a.walked + 1; depth = a.depth }

abbrev pub passes : ℕ → Counts → Counts
passes n b = record { events = n * b.events; walked = 1 + n * (b.walked + 1); depth = 1 + b.depth }

abbrev pub standing : Counts → Counts
standing b = record { events = b.events; walked = b.walked + 2; depth = b.depth }

abbrev pub again : Counts → Counts
again b = record { events = b.events; walked = b.walked + 2; depth = 1 + b.depth }
