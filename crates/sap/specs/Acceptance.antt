-- A SAP file is accepted exactly when no listed refusal applies to it: none of 51 to 54.
-- none_accepted     where none applies the file is accepted, with its header
-- accepted_none     of an accepted file none applies
-- accepted-header   the header of an accepted file
use Rattle.std.specs.Prelude.{ℕ, ◌≡◌, List}
use Rattle.refusals.specs.Numbers.Outcome.{accepted}
use Rattle.refusals.specs.Tests.{None, first_of}
use Rattle.refusals.specs.Laws.{passed_none, none_passed, guarded-accepted}
use Rattle.sapheader.specs.declared.Header.{Header}
use Rattle.sap.specs.Answers.{sap_tests, header_in, sap_outcome}

-- A file to which none of 51 to 54 applies is accepted, and the answer is its header.
pub none_accepted : (f : List ℕ) → None (sap_tests f) → sap_outcome f ≡ accepted (header_in f)
unfolding sap_outcome
none_accepted f h = rw (none_passed (sap_tests f) h)

-- To a file that is accepted none of 51 to 54 applies.
pub accepted_none : (f : List ℕ) (h : Header) → sap_outcome f ≡ accepted h → None (sap_tests f)
unfolding sap_outcome
accepted_none f h e = passed_none (sap_tests f) (guarded-accepted (first_of (sap_tests f)) h (header_in f) e).0

-- The header that an accepted file is answered with is the file's own.
pub accepted-header : (f : List ℕ) (h : Header) → sap_outcome f ≡ accepted h → header_in f ≡ h
unfolding sap_outcome
accepted-header f h e = (guarded-accepted (first_of (sap_tests f)) h (header_in f) e).1
