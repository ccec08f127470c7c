-- Laws of what a caller asks of a SAP file.
-- time-once, block-once   no two answers have the same outcome
-- time-file, block-file   a file that is refused is refused so, whatever is asked
-- song-there, song-past   of an accepted file a song has a time, stated or not, exactly where its number is
--                         below SONGS
-- block-there             of an accepted file, the block of a number is the one of that number in the file's
--                         order
use Rattle.std.specs.Prelude.{Result, Option, ℕ, ◌≤◌, ◌<◌, ◌≡◌, List}
use borrow.Author.Tests.{le-leb, lt-leb}
use Rattle.refusals.specs.declared.Refusal.{Refusal}
use Rattle.refusals.specs.Numbers.{outcome_of}
use Rattle.refusals.specs.Numbers.Outcome.{accepted, refused}
use Rattle.refusals.specs.Laws.{outcome-once}
use Rattle.sapblocks.specs.declared.Block.{Block}
use Rattle.sapblocks.specs.Blocks.{listed}
use Rattle.sapblocks.specs.Answers.{numbered}
use Rattle.saptext.specs.Text.{text_in}
use Rattle.saptext.specs.Stated.{time_of}
use Rattle.sapheader.specs.declared.Header.{Header}
use Rattle.sap.specs.Answers.{lines_in, blocks_after, moment_for, sap_outcome}
use Rattle.sapparts.specs.declared.Duration.{Duration}
use Rattle.sapparts.specs.Asked.{lasting, time_outcome, block_outcome}

-- No two answers to a song's number have the same outcome.
pub time-once : (r s : Result (Option Duration) Refusal) → outcome_of r ≡ outcome_of s → r ≡ s
time-once = outcome-once

-- No two answers to a block's number have the same outcome.
pub block-once : (r s : Result (Option Block) Refusal) → outcome_of r ≡ outcome_of s → r ≡ s
block-once = outcome-once

module _ (f : List ℕ) (n : ℕ) where
  -- A file that is refused is refused with its own number, whatever song is asked for.
  pub time-file : (number place : ℕ) → sap_outcome f ≡ refused number place → time_outcome f n ≡ refused number place
  unfolding time_outcome
  time-file number place e = rw e

  -- So is it whatever block is asked for.
  pub block-file : (number place : ℕ) → sap_outcome f ≡ refused number place → block_outcome f n ≡ refused number place
  unfolding block_outcome
  block-file number place e = rw e

  module _ (h : Header) (e : sap_outcome f ≡ accepted h) where
    -- Of an accepted file a song below SONGS has what TIME states for it.
    pub song-there : n < h.songs → time_outcome f n ≡ accepted (lasting (moment_for (time_of n (lines_in (text_in f)))))
    unfolding time_outcome
    song-there k = rw (e, lt-leb h.songs n k)

    -- Any other song is refused, 44.
    pub song-past : h.songs ≤ n → time_outcome f n ≡ refused 44 0
    unfolding time_outcome
    song-past k = rw (e, le-leb h.songs n k)

    -- Of an accepted file a block is the one of its number, in the file's order.
    pub block-there : block_outcome f n ≡ accepted (numbered (listed (blocks_after f)) n)
    unfolding block_outcome
    block-there = rw e
