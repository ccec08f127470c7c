-- What the recursive reading of a voice's bodies is asked and says, for its contract.
-- held_in         what the cells hold of each phrase closed so far
-- Cells          the cells hold small counts
-- read_at         the rest of the innermost body at a pair, read in one pass
-- Measurable     what a reading may count on
-- Measures       what it says of a body that is not too deep: its counts, the pair that closes it, and what
--                the cells hold then
-- MeasureHolds   and of one that is: it is deeper than is allowed
use Rattle.std.specs.Prelude.{Option, Some, None, ℕ, ◌+◌, ◌/◌, ◌<◌, ◌≤◌, ◌≡◌, List, length, get_or}
use Rattle.bodies.specs.Voice.{pairs}
use Rattle.bodies.specs.Bodies.{outer}
use Rattle.bodies.specs.Places.{open_at, body_at}
use Rattle.bodies.specs.OnePass.{Read, reading}
use Rattle.tally.specs.declared.Counts.{Counts}
use Rattle.counts.specs.declared.Extent.{Extent}
use Rattle.counts.specs.Counting.{counting}
use Rattle.tally.specs.Small.{Small, unpacked_counts}

abbrev pub held_in : List ℕ → ℕ → Counts
held_in cells k = unpacked_counts (get_or cells k 0)

pub record Cells (cells : List ℕ) : Type 0 where
  pub few : length cells ≡ 24
  pub small : (k : ℕ) → Small (held_in cells k)

unfoldable pub read_at : List ℕ → (ℕ → Counts) → ℕ → Read Counts
read_at bs held i = reading counting held (body_at (pairs bs) i)

pub record Measurable (bs cells : List ℕ) (allowance from : ℕ) : Type 0 where
  pub short : length bs ≤ 65536
  pub inside : from ≤ length bs / 2
  pub low : allowance ≤ 16
  pub cells_ready : Cells cells

pub record Measures (bs cells : List ℕ) (allowance from : ℕ) (m : Extent) (cells' : List ℕ) : Type 0 where
  pub counts : m.counts ≡ (read_at bs (held_in cells) from).total
  pub phrases : held_in cells' ≡ (read_at bs (held_in cells) from).phrases
  pub closes : outer (open_at (pairs bs) from) ≡ open_at (pairs bs) (m.at + 1)
  pub later : from ≤ m.at
  pub inside : m.at ≤ length bs / 2
  pub small : Small m.counts
  pub low : m.counts.depth ≤ allowance
  pub cells_ready : Cells cells'

abbrev pub MeasureHolds : List ℕ → List ℕ → ℕ → ℕ → List ℕ → Option Extent → Type 0
MeasureHolds bs cells allowance from cells' (Some m) = Measures bs cells allowance from m cells'
MeasureHolds bs cells allowance from cells' None = allowance < (read_at bs (held_in cells) from).total.depth
