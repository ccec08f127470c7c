-- Laws of putting blocks into memory. They hold of good blocks, as those of a file whose blocks are whole are
-- (blocks-good of sapblocks).
-- length-data     a good block has as many data bytes as cells
-- data_fit        they fit into memory
-- length-block    memory keeps its length
-- What each cell holds then stands in proofs/Put.antt.
use Rattle.std.specs.Prelude.{ℕ, ◌+◌, ◌≤◌, ◌≡◌, List, length, drop}
use Rattle.std.proofs.Common.{◌∙◌, arith, length-drop, length-take-le}
use Rattle.fields.specs.Parts.{put}
use Rattle.fields.proofs.Memory.{length-put}
use Rattle.sapblocks.specs.declared.Block.{Block}
use Rattle.sapblocks.specs.Blocks.{size_of}
use Rattle.sapblocks.specs.Laws.{GoodBlock}
use Rattle.sapput.specs.Putting.{data_of}

module _ (f : List ℕ) where
  module _ (b : Block) (g : GoodBlock f b) where
    -- A good block has as many data bytes as cells.
    pub length-data : length (data_of f b) ≡ size_of b.start b.end
    length-data = length-take-le (size_of b.start b.end) (drop b.from f) (omega (arith, length-drop b.from f, g.in_file))

    -- A good block's data fit into memory.
    pub data_fit : (m : List ℕ) → length m ≡ 65536 → b.start + length (data_of f b) ≤ length m
    data_fit m size = omega (arith, length-data, g.ordered, g.in_memory)

    -- Memory keeps its length where a block is put into it.
    pub length-block : (m : List ℕ) → length m ≡ 65536 → length (put m b.start (data_of f b)) ≡ 65536
    length-block m size = length-put m b.start (data_of f b) (data_fit m size) ∙ size
