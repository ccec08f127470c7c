-- What a failed write leaves in a writer, and the line that says what failed.
-- TakesPart            the writer has taken a first part of the text, not the whole, and nothing else
-- failure_line         what failed, a colon, words of the machine's for it, and the line's end
-- AppendsFailure       the writer has taken such a line; which words the machine has is not ours to say
-- TakesPartOfFailure   it has taken a first part of such a line, not the whole, and nothing else
-- AppendsPrinted       the writer has taken what a value prints, where the value's type says what that is
-- TakesPartOfPrinted   it has taken a first part of that, not the whole, and nothing else; of a text with no
--                      byte, which has no such part, this says nothing
use Rattle.std.specs.Prelude.{ℕ, ◌<◌, List, [], ◌∷◌, ◌++◌, length, take, Option, IfSome}
use Rattle.std.specs.Io.KnownBytes.{Appends}

-- The part is the first k bytes. What a writer holds is an Option: std gives None where nobody knows it.
abbrev pub TakesPart : Option (List ℕ) → Option (List ℕ) → List ℕ → Type 0
TakesPart before after text = (k : ℕ) × (k < length text) × Appends before after (take k text)

abbrev pub failure_line : List ℕ → List ℕ → List ℕ
failure_line what words = what ++ (58 ∷ 32 ∷ (words ++ (10 ∷ [])))

abbrev pub AppendsFailure : Option (List ℕ) → Option (List ℕ) → List ℕ → Type 0
AppendsFailure before after what = (words : List ℕ) × Appends before after (failure_line what words)

abbrev pub TakesPartOfFailure : Option (List ℕ) → Option (List ℕ) → List ℕ → Type 0
TakesPartOfFailure before after what = (words : List ℕ) × TakesPart before after (failure_line what words)

abbrev pub AppendsPrinted : Option (List ℕ) → Option (List ℕ) → Option (List ℕ) → Type 0
AppendsPrinted before after printed = IfSome printed (λ text. Appends before after text)

abbrev pub TakesPartOfPrinted : Option (List ℕ) → Option (List ℕ) → Option (List ℕ) → Type 0
TakesPartOfPrinted before after printed =
    IfSome printed (λ text. 0 < length text → TakesPart before after text)
