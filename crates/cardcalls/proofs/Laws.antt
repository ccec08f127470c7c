-- No value of a call of a card's files can be taken for a refusal.
-- card_answers   so for tt_kind and tt_reason
use Prim.Native.Nat.{ℕ, ◌≤◌, ◌<◌}
use mathlib.Core.Path.{◌≡◌}
use native.Mathlib.Omega.{arith}
use lib.Dec.{lit<}
use lib.ListN.{length}
use Rattle.card.specs.Kinds.{file_kind, kind-most}
use Rattle.reasons.specs.Phrases.{phrase_at}
use Rattle.reasons.specs.Laws.{phrase-most}
use Rattle.answers.specs.Apart.{upper_half}
use Rattle.cardcalls.specs.Statements.{CardAnswers}

-- a number that is at most one below 2^32
bounded_valued : (n most : ℕ) → n ≤ most → most < 0x100000000 → upper_half n ≡ 0
bounded_valued n most h k = omega arith

pub card_answers : CardAnswers
card_answers = record {
  kind_valued = λ file. bounded_valued (file_kind file) 4 (kind-most file) (lit< tt);
  reason_valued = λ number. bounded_valued (length (phrase_at number)) 80 (phrase-most number) (lit< tt);
}
