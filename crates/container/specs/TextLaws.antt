-- Laws of lines, for every file.
-- take-line     the bytes of a line are the first of their list
-- length-line   they are no more
-- line-within   a line ends within any bound of its start and the file
use Rattle.std.specs.Prelude.{ℕ, ◌+◌, ◌≤◌, ◌≡◌, refl, List, [], ◌∷◌, length, take, drop}
use Rattle.std.proofs.Common.{ap, arith, length-drop}
use Rattle.logic.specs.Cases.{cases}
use Rattle.container.specs.Text.{ends_line, line_bytes, line_at}

-- The bytes of a line are the first bytes of the list that it is read from.
pub take-line : (s : List ℕ) → take (length (line_bytes s)) s ≡ line_bytes s
unfolding line_bytes
take-line [] = refl
take-line (b ∷ bs) = cases (ends_line b) (λ e. rw e) (λ e. rw e (ap (λ (l : List ℕ). b ∷ l) (take-line bs)))

-- A line has at most as many bytes as the list that it is read from.
pub length-line : (s : List ℕ) → length (line_bytes s) ≤ length s
unfolding line_bytes
length-line [] = omega arith
length-line (b ∷ bs) = let rest = length-line bs in cases (ends_line b) (λ e. rw e (omega arith)) (λ e. rw e (omega arith))

-- Where a line's start and the file's length are within a bound, the line ends within it.
pub line-within : (f : List ℕ) (from bound : ℕ) → from ≤ bound → length f ≤ bound → from + length (line_at f from) ≤ bound
line-within f from bound h k = omega (arith, length-line (drop from f), length-drop from f)
