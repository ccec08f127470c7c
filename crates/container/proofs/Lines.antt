-- Where a line ends, counted from its first byte on. Assumes nothing.
-- Counted        what is counted up to a byte and what is still to be counted make the length
-- counted-more   one byte more is counted
-- counted-closed, counted_all   the count has met a byte that no line has, or the end
-- end-past       a line past the end is empty
-- line-short     no line ends so far out that a sum is too great
use Prim.Native.Nat.{ℕ, suc, ◌+◌, ◌-◌, ◌<◌, ◌≤◌, ◌^◌}
use mathlib.Core.Path.{◌≡◌}
use mathlib.Core.Bool.{true, false}
use mathlib.Core.List.{List}
use native.Mathlib.Omega.{arith}
use native.Mathlib.Numerals.{add-one}
use lib.ListN.{length, get_or, drop_of_length-le}
use lib.Seq.{drop-cons}
use Rattle.container.specs.Text.{ends_line, line_bytes, line_at}
use Rattle.container.specs.TextLaws.{line-within}

module _ (f : List ℕ) where
  -- a line past the end is empty
  line-past : (from : ℕ) → length f ≤ from → length (line_at f from) ≡ 0
  unfolding line_bytes
  line-past from h = rw (drop_of_length-le f h)

  pub end-past : (from : ℕ) → length f ≤ from → from ≡ from + length (line_at f from)
  end-past from h = omega (arith, line-past from h)

  pub line-short : (from : ℕ) → length f < 2 ^ 63 → from + 1 < 2 ^ 64 → from + length (line_at f from) + 1 < 2 ^ 64
  line-short from h k = omega (arith, line-within f from (2 ^ 64 - 2) (omega arith) (omega arith))

  module _ (from : ℕ) where
    abbrev pub Counted : ℕ → Type 0
    Counted n = (from ≤ n) × (n ≤ length f) × (from + length (line_at f from) ≡ n + length (line_at f n))

    module _ (n : ℕ) (c : Counted n) where
      pub counted-closed : n < length f → ends_line (get_or f n 0) ≡ true → n ≡ from + length (line_at f from)
      unfolding line_bytes
      counted-closed h e =
          let t : length (line_at f n) ≡ 0 = rw (drop-cons f n 0 h, e) in
          omega (arith, c.0, c.2)

      pub counted-more : n < length f → ends_line (get_or f n 0) ≡ false → Counted (n + 1)
      unfolding line_bytes
      counted-more h e =
          let t : length (line_at f n) ≡ suc (length (line_at f (suc n))) = rw (drop-cons f n 0 h, e) in
          rw (add-one n) (omega (arith, c.0), omega (arith, h), omega (arith, c.2))

      pub counted_all : length f ≤ n → length f ≡ from + length (line_at f from)
      counted_all h = omega (arith, c.0, c.1, c.2, line-past n h)
