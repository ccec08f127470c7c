-- What the reading of a file answers, for its contract. Which bytes a file has is the machine's to say; how
-- many cells are counted, and that no other cell changes, is ours.
-- Filled       what is read lies in the first cells of the list, and every other cell is as before
-- FilledPart   what a read that failed leaves in the list and in its reader
-- ReadInto     what an answer says of the list before the call and after it
use Rattle.std.specs.Prelude.{ℕ, ◌≤◌, ◌≡◌, List, length, take, drop, Option, Result, Ok, Err}
use Rattle.std.specs.Io.KnownBytes.{Consumes}
use Rattle.files.specs.declared.LoadError.{LoadError}
use Rattle.files.specs.declared.LoadError.TheVariants.{NotOpened, NotRead}

pub record Filled (n : ℕ) (before after : List ℕ) : Type 0 where
  -- No more bytes are counted than the list holds.
  pub within : n ≤ length after
  -- The list has as many cells as before.
  pub cells : length after ≡ length before
  -- The cells from n on are as before.
  pub others : drop n after ≡ drop n before

-- The reader has lost the first n bytes that it had left, and no more; they lie in the first n cells, and
-- every other cell is as before. What a reader has left is an Option: std gives None where nobody knows it.
abbrev pub FilledPart : Option (List ℕ) → Option (List ℕ) → List ℕ → List ℕ → Type 0
FilledPart left_before left_after before after =
    (n : ℕ) × Filled n before after × Consumes left_before left_after (take n after)

abbrev pub ReadInto : Result ℕ LoadError → List ℕ → List ℕ → Type 0
-- With a count the cells after the bytes that were read are as before.
ReadInto (Ok n) before after = Filled n before after
-- A file that was not opened leaves every cell as before.
ReadInto (Err (NotOpened error)) before after = after ≡ before
-- Of a file that was opened and not read nothing is promised: some of its bytes may be in the list.
ReadInto (Err (NotRead error)) before after = Unit
