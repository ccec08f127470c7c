-- Source 002, 'Part Two - Binary Data', and document 02 (i): the blocks of a SAP file.
-- marker          'FF FF' at the front of bytes
-- start_in, end_in  a block's two addresses, 'little endian'
-- size_of          how many data bytes a block has
-- touches         a block touches 02E0 to 02E3 (house)
-- bad_block        what stands at the front of bytes is no block: its addresses or its data are cut off, its
--                 start is after its end, or it touches 02E0 to 02E3
-- block_at         the block at the front of bytes that stand at an offset of the file
-- Blocks          the blocks of the data, or that one of them is bad or missing
-- with_block       a block and the blocks after it
-- blocks_from      the blocks of bytes, from an offset on: 'FF FF where a block would start is skipped, each
--                 time, and a block must follow' (`must`); the first number is how many bytes are skipped
-- first
-- blocks_in        the blocks of a file, whose data begin at an offset
-- are_whole        none of them is bad or missing
-- listed          they, where they are whole
use Rattle.std.specs.Prelude.{ℕ, zero, suc, ◌+◌, ◌-◌, Bool, true, false, cond, ◌&&◌, ◌||◌, List, [], ◌∷◌, length, get_or, drop, ltb, leb, eqb}
use Rattle.fields.specs.Numbers.{le16}
use Rattle.sapblocks.specs.declared.Block.{Block}

abbrev pub marker : List ℕ → Bool
marker s = eqb (get_or s 0 0) 0xFF && eqb (get_or s 1 0) 0xFF

abbrev pub start_in : List ℕ → ℕ
start_in s = le16 s 0

abbrev pub end_in : List ℕ → ℕ
end_in s = le16 s 2

abbrev pub size_of : ℕ → ℕ → ℕ
size_of start end = end - start + 1

abbrev pub touches : ℕ → ℕ → Bool
touches start end = leb start 0x02E3 && leb 0x02E0 end

abbrev pub bad_block : List ℕ → Bool
bad_block s =
    ltb (length s) 4
    || ltb (end_in s) (start_in s)
    || touches (start_in s) (end_in s)
    || ltb (length s) (4 + size_of (start_in s) (end_in s))

abbrev pub block_at : ℕ → List ℕ → Block
block_at at s = record { start = start_in s; end = end_in s; from = at + 4 }

pub data Blocks : Type 0 where
  bad : Blocks
  whole : List Block → Blocks

abbrev pub with_block : Block → Blocks → Blocks
with_block b bad = bad
with_block b (whole bs) = whole (b ∷ bs)

unfoldable pub blocks_from : ℕ → Bool → ℕ → List ℕ → Blocks
blocks_from skip must at [] = cond must bad (whole [])
blocks_from (suc skip) must at (b ∷ bs) = blocks_from skip must (at + 1) bs
blocks_from zero must at (b ∷ bs) =
    let s = b ∷ bs in
    let afterMarker = blocks_from 1 true (at + 1) bs in
    let after_block = blocks_from (3 + size_of (start_in s) (end_in s)) false (at + 1) bs in
    cond (marker s) afterMarker (cond (bad_block s) bad (with_block (block_at at s) after_block))

unfoldable pub blocks_in : List ℕ → ℕ → Blocks
blocks_in f at = blocks_from 0 true at (drop at f)

abbrev pub are_whole : Blocks → Bool
are_whole bad = false
are_whole (whole bs) = true

abbrev pub listed : Blocks → List Block
listed bad = []
listed (whole bs) = bs
