-- What a walk notes of where the bodies of DEFs begin, by their numbers, for the contract of its code.
-- body_in        the pair that a CAL goes to
-- starts_after   what is noted after each pair
use Rattle.std.specs.Prelude.{ℕ, ◌+◌, List, get_or, set}
use Rattle.moves.specs.declared.Move.{Move}
use Rattle.moves.specs.declared.Move.TheVariants.{Repeat, Phrase, Call, Tal, End}

unfoldable pub body_in : Move → List ℕ → ℕ
body_in (Repeat n) starts = 0
body_in (Phrase k) starts = 0
body_in (Call k) starts = get_or starts k 0
body_in Tal starts = 0
body_in End starts = 0

unfoldable pub starts_after : Move → ℕ → List ℕ → List ℕ
starts_after (Repeat n) at starts = starts
starts_after (Phrase k) at starts = set starts k (at + 1)
starts_after (Call k) at starts = starts
starts_after Tal at starts = starts
starts_after End at starts = starts
