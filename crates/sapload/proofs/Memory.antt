-- What memory holds after a SAP file is loaded.
-- memory_loaded      an accepted file's blocks are put into a memory of 65,536 cells, one after the other
-- memory_later       of two blocks that share a cell the later one's byte is in it
-- memory_uncovered   a cell that no block covers is as it was
-- memory_length      loading never changes how many cells there are
use Rattle.std.specs.Prelude.{ℕ, ◌≡◌, refl, true, false, List, ◌∷◌, ◌++◌, length, get_or, eqb}
use Rattle.std.proofs.Common.{sym, ◌∙◌}
use Rattle.std.proofs.Math.Path.{ap}
use borrow.Author.Tests.{eqb-true, eqb-false}
use Rattle.logic.specs.Cases.{cases}
use Rattle.refusals.specs.Numbers.{Outcome}
use Rattle.refusals.specs.Numbers.Outcome.{accepted, refused}
use Rattle.sapblocks.specs.declared.Block.{Block}
use Rattle.sapblocks.specs.Blocks.{listed}
use Rattle.sapblocks.specs.Laws.{Bytes}
use Rattle.sapput.specs.Putting.{blocks_put, covers, covered, byte_for}
use Rattle.sapput.proofs.Put.{length-blocks, put_uncovered, put-later}
use Rattle.sapheader.specs.declared.Header.{Header}
use Rattle.sap.specs.Answers.{blocks_after, sap_outcome}
use Rattle.sapload.specs.Loading.{sap_memory_with, sap_memory_after}
use Rattle.sapload.specs.Laws.{size-refused, size-read, accepted-good, memory_refused}

module _ (f : List ℕ) (h : Header) (e : sap_outcome f ≡ accepted h) where
  module _ (m : List ℕ) (size : length m ≡ 65536) where
    -- Loading an accepted file 'goes block by block': its blocks are put into a memory of 65,536 cells, one
    -- after the other, and nothing else.
    pub memory_loaded : sap_memory_after f m ≡ blocks_put f (listed (blocks_after f)) m
    unfolding sap_memory_after
    memory_loaded = rw (size-read f (length m) size ∙ e)

    module _ (bytes : Bytes f) (i : ℕ) where
      -- 'A later byte replacing an earlier one': of two blocks of an accepted file that share a cell the
      -- later one's byte is in it. A cell that a block covers, and no later one, holds that block's byte.
      pub memory_later : (first : List Block) (b : Block) (later : List Block) → listed (blocks_after f) ≡ first ++ b ∷ later
          → covers b i ≡ true → covered later i ≡ false → get_or (sap_memory_after f m) i 0 ≡ byte_for f b i
      memory_later first b later are over free =
          rw (memory_loaded, are) (put-later f i m size first b later (rw are at (accepted-good f h e bytes)) over free)

      -- A cell that no block of an accepted file covers is as it was.
      pub memory_uncovered : covered (listed (blocks_after f)) i ≡ false → get_or (sap_memory_after f m) i 0 ≡ get_or m i 0
      memory_uncovered free =
          rw memory_loaded (put_uncovered f i m size (listed (blocks_after f)) (accepted-good f h e bytes) free)

-- Loading never changes how many cells there are.
pub memory_length : (f m : List ℕ) → Bytes f → length (sap_memory_after f m) ≡ length m
unfolding sap_memory_after
memory_length f m bytes =
    cases (eqb (length m) 65536) (λ p. let size = eqb-true (length m) 65536 p in rw (size-read f (length m) size) (go size (sap_outcome f) refl))
    (λ p. ap length (memory_refused f m 40 0 (size-refused f (length m) (eqb-false (length m) 65536 p))))
  where
    go : length m ≡ 65536 → (o : Outcome Header) → sap_outcome f ≡ o → length (sap_memory_with o f m) ≡ length m
    go size (refused n place) e = refl
    go size (accepted h) e = length-blocks f (listed (blocks_after f)) m (accepted-good f h e bytes) size ∙ sym size
