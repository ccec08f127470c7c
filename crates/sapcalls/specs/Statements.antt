-- docs/INTERFACE.md, 'What a call answers', of SAP files: no value can be taken for a refusal.
-- SapAnswers   so for each call, of every file; proofs/Laws.antt proves it
use Rattle.std.specs.Prelude.{ℕ, List, length}
use Rattle.sap.specs.Answers.{sap_outcome}
use Rattle.sapload.specs.Loading.{sap_load_outcome}
use Rattle.answers.specs.Answers.{no_value}
use Rattle.answers.specs.Apart.{Apart}
use Rattle.sapcalls.specs.Lists.{sap_numbers}

pub record SapAnswers (file : List ℕ) : Type 0 where
  -- No value of tt_sap_read can be taken for a refusal,
  pub read-apart : Apart no_value (sap_outcome file)
  -- none of tt_sap_fields,
  pub fields-apart : Apart (λ h. length (sap_numbers h)) (sap_outcome file)
  -- and none of tt_sap_load, for a memory of any number of cells.
  pub load_apart : (cells : ℕ) → Apart no_value (sap_load_outcome file cells)
