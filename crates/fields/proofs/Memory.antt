-- Laws of memory.
-- length-put     memory keeps its length
-- put-inside     a cell of the payload holds the payload's byte
-- put-above, put-below   every other cell is as it was
use Rattle.std.specs.Prelude.{ℕ, ◌+◌, ◌<◌, ◌≤◌, ◌≡◌, take, drop, get_or}
use Rattle.std.proofs.Common.{◌∙◌, length-append, length-drop, length-take-le}
use mathlib.Core.List.{List, ◌++◌, append_assoc}
use native.Mathlib.Omega.{arith}
use Rattle.std.proofs.Math.ListN.{length, length-take, get_or-append}
use Rattle.std.proofs.Math.Seq.{get_or-take, get_or-drop, get_or-append-add}
use Rattle.fields.specs.Parts.{put}

module _ (m : List ℕ) (a : ℕ) (p : List ℕ) (fits : a + length p ≤ length m) where
  -- Memory keeps its length, where the payload from cell a on fits into it.
  pub length-put : length (put m a p) ≡ length m
  unfolding put
  length-put = simp (length-append, length-take, length-drop) (omega arith)

  start : length (take a m) ≡ a
  start = length-take-le a m (omega arith)

  -- what stands from the payload's first cell on
  rest : List ℕ
  rest = p ++ drop (a + length p) m

  at_rest : (j : ℕ) → get_or (put m a p) (a + j) 0 ≡ get_or rest j 0
  unfolding put rest
  at_rest j = rw (append_assoc (take a m) p (drop (a + length p) m)) (rw start at (get_or-append-add (take a m) rest j 0))

  -- Cell a + j holds byte j of the payload, for each j below the payload's length, where the payload fits.
  pub put-inside : (j : ℕ) → j < length p → get_or (put m a p) (a + j) 0 ≡ get_or p j 0
  unfolding rest
  put-inside j h = at_rest j ∙ get_or-append p (drop (a + length p) m) 0 j h

  -- Each cell after the payload's cells is as it was, where the payload fits.
  pub put-above : (j : ℕ) → get_or (put m a p) (a + (length p + j)) 0 ≡ get_or m (a + length p + j) 0
  unfolding rest
  put-above j = at_rest (length p + j) ∙ get_or-append-add p (drop (a + length p) m) j 0 ∙ get_or-drop (a + length p) m j 0

  -- Each cell below a is as it was, where the payload fits.
  pub put-below : (i : ℕ) → i < a → get_or (put m a p) i 0 ≡ get_or m i 0
  unfolding put rest
  put-below i h =
      rw (append_assoc (take a m) p (drop (a + length p) m))
      (get_or-append (take a m) rest 0 i (omega (arith, start)) ∙ get_or-take a m i 0 h)
