-- Document 02 (i): 'Loading goes block by block, a later byte replacing an earlier one.'
-- data_of      the data bytes of a block
-- blocks_put   memory after blocks are put into it, one after the other
-- covers      a cell lies in a block
-- covered     a cell lies in one of some blocks
-- byte_for     the byte that a block has for a cell that lies in it
-- held        what a cell holds after blocks are put into memory, by what it held before: each block in which
--             it lies replaces it
use Rattle.std.specs.Prelude.{ℕ, ◌+◌, ◌-◌, Bool, false, cond, ◌&&◌, ◌||◌, List, [], ◌∷◌, take, drop, get_or, leb}
use Rattle.fields.specs.Parts.{put}
use Rattle.sapblocks.specs.declared.Block.{Block}
use Rattle.sapblocks.specs.Blocks.{size_of}

abbrev pub data_of : List ℕ → Block → List ℕ
data_of f b = take (size_of b.start b.end) (drop b.from f)

abbrev pub blocks_put : List ℕ → List Block → List ℕ → List ℕ
blocks_put f [] m = m
blocks_put f (b ∷ bs) m = blocks_put f bs (put m b.start (data_of f b))

abbrev pub covers : Block → ℕ → Bool
covers b i = leb b.start i && leb i b.end

abbrev pub covered : List Block → ℕ → Bool
covered [] i = false
covered (b ∷ bs) i = covers b i || covered bs i

abbrev pub byte_for : List ℕ → Block → ℕ → ℕ
byte_for f b i = get_or f (b.from + (i - b.start)) 0

abbrev pub held : List ℕ → List Block → ℕ → ℕ → ℕ
held f [] before i = before
held f (b ∷ bs) before i = held f bs (cond (covers b i) (byte_for f b i) before) i
