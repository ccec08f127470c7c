-- The outcome of each way through the tests. Assumes nothing.
-- first_parts     the tests of a file, by the two lists of them
-- too_short_lem, header_failed, payload_failed, all_passed   testing, by the verdicts of the two lists
use Prim.Native.Nat.{ℕ, ◌<◌}
use mathlib.Core.Path.{◌≡◌}
use mathlib.Core.List.{List}
use Rattle.std.specs.Prelude.{Ok, Err}
use lib.ListN.{length}
use borrow.Author.Tests.{lt-ltb}
use Rattle.refusals.specs.Numbers.Outcome.{accepted, refused}
use Rattle.refusals.specs.declared.Reason.{Reason}
use Rattle.refusals.specs.Numbers.{number_of}
use Rattle.refusals.specs.Tests.{first_of, guarded}
use Rattle.refusals.specs.Laws.{first_failed, first_append}
use Rattle.sidheader.specs.declared.Fields.{Fields}
use Rattle.sidheader.specs.declared.Payload.{Payload}
use Rattle.sidheader.specs.Fields.{fields_of}
use Rattle.sidheader.specs.Payload.{payload_of}
use Rattle.sidrefusals.specs.HeaderTests.{header_tests}
use Rattle.sidrefusals.specs.PayloadTests.{payload_tests, sid_tests}
use Rattle.sid.specs.Answers.{passing, tested_outcome}

pub too_short_lem : (f : List ℕ) → length f < 118 → refused 1 0 ≡ tested_outcome f
unfolding tested_outcome sid_tests fields_of
too_short_lem f h = rw (lt-ltb (length f) 118 h)

module _ (f : List ℕ) (x : Fields) (p : Payload) (ex : x ≡ fields_of f) (ep : p ≡ payload_of f x) where
  pub first_parts : first_of (sid_tests f) ≡ first_failed (first_of (header_tests x)) (first_of (payload_tests x p))
  unfolding sid_tests
  first_parts = rw (ep, ex, first_append (header_tests (fields_of f)) (payload_tests (fields_of f) (payload_of f (fields_of f))))

  by_parts : tested_outcome f ≡ guarded (first_failed (first_of (header_tests x)) (first_of (payload_tests x p))) (accepted (passing x p))
  unfolding tested_outcome
  by_parts = rw (first_parts, ep, ex)

  pub header_failed : (r : Reason) → Err r ≡ first_of (header_tests x) → refused (number_of r) 0 ≡ tested_outcome f
  header_failed r e = rw (by_parts, ← e)

  pub payload_failed : (r : Reason) → Ok tt ≡ first_of (header_tests x) → Err r ≡ first_of (payload_tests x p) → refused (number_of r) 0 ≡ tested_outcome f
  payload_failed r first e = rw (by_parts, ← first, ← e)

  pub all_passed : Ok tt ≡ first_of (header_tests x) → Ok tt ≡ first_of (payload_tests x p) → accepted (passing x p) ≡ tested_outcome f
  all_passed first e = rw (by_parts, ← first, ← e)
