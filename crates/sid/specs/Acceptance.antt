-- A PSID or RSID file is accepted exactly when no listed refusal applies to it: none of 1 to 13.
-- header            what a file says of itself, accepted or not
-- none_accepted     where none applies the file is accepted, with its header
-- accepted_none     of an accepted file none applies
-- accepted-header   the header of an accepted file
use Rattle.std.specs.Prelude.{ℕ, ◌≡◌, List}
use Rattle.refusals.specs.Numbers.Outcome.{accepted}
use Rattle.refusals.specs.Tests.{None, first_of}
use Rattle.refusals.specs.Laws.{passed_none, none_passed, guarded-accepted}
use Rattle.sidheader.specs.Fields.{fields_of}
use Rattle.sidheader.specs.Payload.{payload_of}
use Rattle.sidrefusals.specs.PayloadTests.{sid_tests}
use Rattle.sid.specs.declared.Header.{Header}
use Rattle.sid.specs.Header.{header_of}
use Rattle.sid.specs.Answers.{sid_outcome}

abbrev pub header : List ℕ → Header
header f = header_of f (fields_of f) (payload_of f (fields_of f))

-- A file to which none of the listed refusals applies is accepted, and the answer is its header.
pub none_accepted : (f : List ℕ) → None (sid_tests f) → sid_outcome f ≡ accepted (header f)
unfolding sid_outcome
none_accepted f h = rw (none_passed (sid_tests f) h)

-- To a file that is accepted none of the listed refusals applies.
pub accepted_none : (f : List ℕ) (h : Header) → sid_outcome f ≡ accepted h → None (sid_tests f)
unfolding sid_outcome
accepted_none f h e = passed_none (sid_tests f) (guarded-accepted (first_of (sid_tests f)) h (header f) e).0

-- The header that an accepted file is answered with is the file's own.
pub accepted-header : (f : List ℕ) (h : Header) → sid_outcome f ≡ accepted h → header f ≡ h
unfolding sid_outcome
accepted-header f h e = (guarded-accepted (first_of (sid_tests f)) h (header f) e).1
