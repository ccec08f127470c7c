-- The refusals of a SAP file have a number above 0 and a small place.
-- sap-low, load_low   so of reading and loading
use Prim.Native.Nat.{ℕ}
use mathlib.Core.Bool.{not}
use mathlib.Core.List.{List, [], ◌∷◌}
use lib.Dec.{eqb}
use Rattle.refusals.specs.Numbers.Outcome.{accepted}
use Rattle.refusals.specs.declared.Reason.TheVariants.{MemorySize}
use Rattle.refusals.specs.Tests.{test}
use Rattle.sap.specs.Answers.{sap_tests, header_in, sap_outcome}
use Rattle.sapload.specs.Loading.{sap_load_outcome}
use Rattle.answers.specs.Apart.{LowPlace, tests_low}

pub sap-low : (f : List ℕ) → LowPlace (sap_outcome f)
unfolding sap_outcome
sap-low f = tests_low (sap_tests f) (accepted (header_in f)) tt

pub load_low : (f : List ℕ) (cells : ℕ) → LowPlace (sap_load_outcome f cells)
unfolding sap_load_outcome
load_low f cells = tests_low (test MemorySize (not (eqb cells 65536)) ∷ []) (sap_outcome f) (sap-low f)
