-- docs/INTERFACE.md, 'What a call answers', of the kind of a file and the reason for a number: each call
-- answers a value, for every file and number, and none can be taken for a refusal.
-- CardAnswers   so for each call; proofs/Laws.antt proves it
use Rattle.std.specs.Prelude.{ℕ, ◌≡◌, List, length}
use Rattle.card.specs.Kinds.{file_kind}
use Rattle.reasons.specs.Phrases.{phrase_at}
use Rattle.answers.specs.Apart.{upper_half}

pub record CardAnswers : Type 0 where
  -- No value of tt_kind can be taken for a refusal: the upper half of the answer is 0.
  pub kind_valued : (file : List ℕ) → upper_half (file_kind file) ≡ 0
  -- No value of tt_reason can be taken for a refusal.
  pub reason_valued : (number : ℕ) → upper_half (length (phrase_at number)) ≡ 0
