-- Document 01, 'PSID and RSID': 'Tests in this order; the first that applies answers.' So for every ordered
-- list of tests.
-- test         a reason beside the condition under which it applies
-- Verdict      of tests made in order: none has applied, or the reason of the first that did
-- first_of      the verdict of a list of tests
-- None         none of a list of tests applies
-- guarded      tests before an outcome: a refusal at place 0, or that outcome
-- and_then      what comes after a part that is accepted; a refusal stands
-- tested       the verdict after one more test, for code that makes its tests one by one; what stands for a
--              test may be a reason or a number
use Rattle.std.specs.Prelude.{Result, Ok, Err, ◌≡◌, Bool, false, cond, List, [], ◌∷◌}
use Rattle.refusals.specs.declared.Reason.{Reason}
use Rattle.refusals.specs.declared.Test.{Test}
use Rattle.refusals.specs.Numbers.{Outcome, number_of}
use Rattle.refusals.specs.Numbers.Outcome.{accepted, refused}

abbrev pub test : Reason → Bool → Test
test r b = record { reason = r; applies = b }

abbrev pub Verdict : Type 0
Verdict = Result Unit Reason

abbrev pub first_of : List Test → Verdict
first_of [] = Ok tt
first_of (t ∷ ts) = cond t.applies (Err t.reason) (first_of ts)

abbrev pub None : List Test → Type 0
None [] = Unit
None (t ∷ ts) = (t.applies ≡ false) × None ts

abbrev pub guarded : {A : Type 0} → Verdict → Outcome A → Outcome A
guarded (Ok _) later = later
guarded (Err r) later = refused (number_of r) 0

abbrev pub and_then : {A B : Type 0} → Outcome A → (A → Outcome B) → Outcome B
and_then (accepted a) f = f a
and_then (refused number place) f = refused number place

abbrev pub tested : {E : Type 0} → Result Unit E → Bool → E → Result Unit E
tested (Ok _) b r = cond b (Err r) (Ok tt)
tested (Err s) b r = Err s
