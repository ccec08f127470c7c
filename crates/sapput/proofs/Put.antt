-- What each cell of memory holds after good blocks are put into it.
-- length-blocks   memory keeps its length
-- put-cell        what each cell holds
-- put_uncovered   a cell that no block covers is as it was
-- put-later       of two blocks that share a cell the later one's byte is in it: a cell that a block covers,
--                 and no later one, holds that block's byte
use Rattle.std.specs.Prelude.{ℕ, ◌+◌, ◌-◌, ◌≤◌, ◌≡◌, refl, true, false, cond, List, [], ◌∷◌, ◌++◌, length, get_or, drop, leb, ltb}
use Rattle.std.proofs.Common.{ap, ◌∙◌, arith, get_or-take, get_or-drop, leb-true, leb-false, ltb-true, ltb-false, le-leb}
use Rattle.logic.specs.Cases.{cases}
use Rattle.logic.specs.Truth.{both, neither}
use Rattle.fields.specs.Parts.{put}
use Rattle.fields.proofs.Memory.{put-inside, put-above, put-below}
use Rattle.sapblocks.specs.declared.Block.{Block}
use Rattle.sapblocks.specs.Blocks.{size_of}
use Rattle.sapblocks.specs.Laws.{GoodBlock, GoodBlocks}
use Rattle.sapput.specs.Putting.{data_of, blocks_put, covers, covered, byte_for, held}
use Rattle.sapput.specs.Laws.{length-data, data_fit, length-block}

module _ (f : List ℕ) where
  module _ (b : Block) (g : GoodBlock f b) where
    module _ (m : List ℕ) (size : length m ≡ 65536) (i : ℕ) where
      -- A cell that a block does not cover is as it was.
      put-outside : covers b i ≡ false → get_or (put m b.start (data_of f b)) i 0 ≡ get_or m i 0
      put-outside e =
          let p = data_of f b in
          let fits = data_fit f b g m size in
          cases (ltb i b.start) (λ h. put-below m b.start p fits i (ltb-true i b.start h))
          (λ h.
          let from : b.start ≤ i = ltb-false i b.start h in
          let past = leb-false i b.end (rw (le-leb b.start i from) at e) in
          let same : b.start + (length p + (i - (b.start + length p))) ≡ i = omega (arith, length-data f b g, past, g.ordered) in
          let same' : b.start + length p + (i - (b.start + length p)) ≡ i = omega (arith, length-data f b g, past, g.ordered) in
          rw (same, same') at (put-above m b.start p fits (i - (b.start + length p))))

      -- A cell that a block covers holds the block's byte.
      put-covered : covers b i ≡ true → get_or (put m b.start (data_of f b)) i 0 ≡ byte_for f b i
      put-covered e =
          let h = both (leb b.start i) (leb i b.end) e in
          let from = leb-true b.start i h.0 in
          let up_to = leb-true i b.end h.1 in
          let j = i - b.start in
          let same : b.start + j ≡ i = omega (arith, from) in
          (rw same at (put-inside m b.start (data_of f b) (data_fit f b g m size) j (omega (arith, length-data f b g, from, up_to))))
          ∙ get_or-take (size_of b.start b.end) (drop b.from f) j 0 (omega (arith, from, up_to))
          ∙ get_or-drop b.from f j 0

  -- Each cell of memory holds what held says of it.
  pub put-cell : (bs : List Block) (m : List ℕ) (i : ℕ) → GoodBlocks f bs → length m ≡ 65536 → get_or (blocks_put f bs m) i 0 ≡ held f bs (get_or m i 0) i
  put-cell [] m i g size = refl
  put-cell (b ∷ bs) m i g size =
      let one : get_or (put m b.start (data_of f b)) i 0 ≡ cond (covers b i) (byte_for f b i) (get_or m i 0) = cases (covers b i) (λ e. rw e (put-covered b g.0 m size i e)) (λ e. rw e (put-outside b g.0 m size i e)) in
      put-cell bs (put m b.start (data_of f b)) i g.1 (length-block f b g.0 m size) ∙ ap (λ (x : ℕ). held f bs x i) one

  -- Memory keeps its length where blocks are put into it.
  pub length-blocks : (bs : List Block) (m : List ℕ) → GoodBlocks f bs → length m ≡ 65536 → length (blocks_put f bs m) ≡ 65536
  length-blocks [] m g size = size
  length-blocks (b ∷ bs) m g size = length-blocks bs (put m b.start (data_of f b)) g.1 (length-block f b g.0 m size)

  module _ (i : ℕ) where
    held_uncovered : (bs : List Block) (before : ℕ) → covered bs i ≡ false → held f bs before i ≡ before
    held_uncovered [] before e = refl
    held_uncovered (b ∷ bs) before e = let n = neither (covers b i) (covered bs i) e in rw n.0 (held_uncovered bs before n.1)

    held-later : (first : List Block) (b : Block) (later : List Block) (before : ℕ) → covers b i ≡ true → covered later i ≡ false → held f (first ++ b ∷ later) before i ≡ byte_for f b i
    held-later [] b later before e n = held_uncovered later (cond (covers b i) (byte_for f b i) before) n ∙ rw e
    held-later (x ∷ first) b later before e n = held-later first b later (cond (covers x i) (byte_for f x i) before) e n

    module _ (m : List ℕ) (size : length m ≡ 65536) where
      -- A cell that no block covers is as it was.
      pub put_uncovered : (bs : List Block) → GoodBlocks f bs → covered bs i ≡ false → get_or (blocks_put f bs m) i 0 ≡ get_or m i 0
      put_uncovered bs g e = put-cell bs m i g size ∙ held_uncovered bs (get_or m i 0) e

      -- Of two blocks that share a cell the later one's byte is in it: a cell that a block covers, and no
      -- later one, holds that block's byte.
      pub put-later : (first : List Block) (b : Block) (later : List Block) → GoodBlocks f (first ++ b ∷ later) → covers b i ≡ true → covered later i ≡ false → get_or (blocks_put f (first ++ b ∷ later) m) i 0 ≡ byte_for f b i
      put-later first b later g e n = put-cell (first ++ b ∷ later) m i g size ∙ held-later first b later (get_or m i 0) e n
