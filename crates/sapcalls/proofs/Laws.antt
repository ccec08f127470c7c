-- Each call of a SAP file tells a value from a refusal (`Apart`).
-- sap_answers   so for tt_sap_read, _fields and _load
use Prim.Native.Nat.{ℕ}
use mathlib.Core.List.{List}
use lib.Dec.{lit<}
use lib.ListN.{length}
use Rattle.sap.specs.Answers.{sap_outcome}
use Rattle.sapload.specs.Loading.{sap_load_outcome}
use Rattle.answers.specs.Answers.{no_value}
use Rattle.answers.specs.Apart.{low-apart}
use Rattle.sapcalls.specs.Lists.{sap_numbers}
use Rattle.sapcalls.specs.Statements.{SapAnswers}
use Rattle.sapcalls.proofs.Places.{sap-low, load_low}

pub sap_answers : (f : List ℕ) → SapAnswers f
sap_answers f = record {
  read-apart = low-apart no_value (sap_outcome f) (λ h e. lit< tt) (sap-low f);
  fields-apart = low-apart (λ h. length (sap_numbers h)) (sap_outcome f) (λ h e. lit< tt) (sap-low f);
  load_apart = λ cells. low-apart no_value (sap_load_outcome f cells) (λ h e. lit< tt) (load_low f cells);
}
