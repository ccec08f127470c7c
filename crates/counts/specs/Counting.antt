-- Document 01, 'Playing a voice': events, pairs walked and depth of a body counted together, by the sums of
-- crates/tally/specs/Sums.antt.
-- counting   the counts of a body
use Rattle.bodies.specs.Playing.{Interpretation}
use Rattle.tally.specs.declared.Counts.{Counts}
use Rattle.tally.specs.Sums.{join, no_counts, single, passes, standing, again}

abbrev pub counting : Interpretation Counts
counting =
    record {
      nothing = no_counts;
      plain = λ e r. join single r;
      repeated = λ n b r. join (passes n b) r;
      defined = λ b r. join (standing b) r;
      called = λ b r. join (again b) r;
    }
