-- What the calls say of the blocks of a SAP file.
-- found_at    what stands at an offset of a file: FF FF or a block, with the offset after it; None where
--             neither does
-- numbered   the block of a number, counted from 0, if there is one
-- walked_in   how many blocks there are and the one of a number; None where they are not whole
use Rattle.std.specs.Prelude.{Option, Some, None, ℕ, zero, suc, ◌+◌, cond, List, [], ◌∷◌, length, drop}
use Rattle.sapblocks.specs.declared.Block.{Block}
use Rattle.sapblocks.specs.declared.Found.{Found}
use Rattle.sapblocks.specs.declared.Found.TheVariants.{Marker, Whole}
use Rattle.sapblocks.specs.declared.Walked.{Walked}
use Rattle.sapblocks.specs.Blocks.{marker, start_in, end_in, size_of, bad_block, block_at, Blocks}
use Rattle.sapblocks.specs.Blocks.Blocks.{bad, whole}

unfoldable pub found_at : List ℕ → ℕ → Option Found
found_at f at =
    let s = drop at f in
    let found = Whole (block_at at s) (at + 4 + size_of (start_in s) (end_in s)) in
    cond (marker s) (Some (Marker (at + 2))) (cond (bad_block s) None (Some found))

abbrev pub numbered : List Block → ℕ → Option Block
numbered [] n = None
numbered (b ∷ bs) zero = Some b
numbered (b ∷ bs) (suc n) = numbered bs n

abbrev pub walked_in : Blocks → ℕ → Option Walked
walked_in bad n = None
walked_in (whole bs) n = Some (record { count = length bs; wanted = numbered bs n })
