-- docs/INTERFACE.md, 'What a call answers', of PSID and RSID files: no value can be taken for a refusal.
-- SidAnswers   so for each call, of every file; proofs/Laws.antt proves it
use Rattle.std.specs.Prelude.{ℕ, List, length}
use Rattle.sid.specs.Answers.{sid_outcome}
use Rattle.sidload.specs.Loading.{load_outcome}
use Rattle.sidspeed.specs.Speed.{speed_outcome}
use Rattle.answers.specs.Answers.{no_value}
use Rattle.answers.specs.Apart.{Apart}
use Rattle.sidcalls.specs.Lists.{header_numbers}

pub record SidAnswers (file : List ℕ) : Type 0 where
  -- No value of tt_sid_read can be taken for a refusal,
  pub read-apart : Apart no_value (sid_outcome file)
  -- none of tt_sid_fields,
  pub fields-apart : Apart (λ h. length (header_numbers h)) (sid_outcome file)
  -- none of tt_sid_load, for a memory of any number of cells,
  pub load_apart : (cells : ℕ) → Apart no_value (load_outcome file cells)
  -- and none of tt_sid_speed, for any song.
  pub speed_apart : (song : ℕ) → Apart (λ bit. bit) (speed_outcome file song)
