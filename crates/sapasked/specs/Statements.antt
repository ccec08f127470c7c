-- docs/INTERFACE.md, 'What a call answers', of what is asked of a SAP file by a number: no value can be taken
-- for a refusal, and no time for an unstated one.
-- AskedAnswers   so for each call, of every file; proofs/Laws.antt proves it
use Rattle.std.specs.Prelude.{ℕ, ◌<◌, ◌≡◌, Bool, List, length}
use Rattle.refusals.specs.Numbers.Outcome.{accepted}
use Rattle.sapparts.specs.Asked.{lasts, time_outcome, block_outcome}
use Rattle.answers.specs.Apart.{Apart}
use Rattle.sapasked.specs.Lists.{time_number, block_numbers}

pub record AskedAnswers (file : List ℕ) : Type 0 where
  -- No value of tt_sap_time can be taken for a refusal, for any song,
  pub time-apart : (song : ℕ) → Apart time_number (time_outcome file song)
  -- no time that is stated for 4,294,967,295, which says that none is,
  pub time-stated : (song milliseconds : ℕ) (looped : Bool) → time_outcome file song ≡ accepted (lasts milliseconds looped)
      → time_number (lasts milliseconds looped) < 0xFFFFFFFF
  -- and no value of tt_sap_block for a refusal, for any block.
  pub block_apart : (number : ℕ) → Apart (λ b. length (block_numbers b)) (block_outcome file number)
