-- The outcome of each way through a question. Assumes nothing.
-- time-refused, song_missing, time-given    the time of a song
-- block_refused, block-given                a block
use Prim.Native.Nat.{ℕ, ◌≤◌, ◌<◌}
use mathlib.Core.Path.{◌≡◌}
use mathlib.Core.List.{List}
use borrow.Author.Tests.{le-leb, lt-leb}
use Rattle.refusals.specs.Numbers.Outcome.{accepted, refused}
use Rattle.std.specs.Prelude.{Option}
use Rattle.sapblocks.specs.declared.Block.{Block}
use Rattle.sapheader.specs.declared.Header.{Header}
use Rattle.sap.specs.Answers.{passing, tested_outcome}
use Rattle.sap.specs.Laws.{read-tested, tested-given}
use Rattle.sapparts.specs.Asked.{lasting, time_outcome, block_outcome}

module _ (f : List ℕ) (song n number place : ℕ) (e : refused number place ≡ tested_outcome f song n) where
  pub time-refused : refused number place ≡ time_outcome f song
  unfolding time_outcome
  time-refused = rw (← read-tested f song n (refused number place) e)

  pub block_refused : refused number place ≡ block_outcome f n
  unfolding block_outcome
  block_refused = rw (← read-tested f song n (refused number place) e)

module _ (f : List ℕ) (song n : ℕ) (h : Header) (m : Option ℕ) (b : Option Block) (e : accepted (passing h m b) ≡ tested_outcome f song n) where
  pub song_missing : h.songs ≤ song → refused 44 0 ≡ time_outcome f song
  unfolding time_outcome
  song_missing k = rw (← (tested-given f song n h m b e).0, le-leb h.songs song k)

  pub time-given : song < h.songs → accepted (lasting m) ≡ time_outcome f song
  unfolding time_outcome
  time-given k = let g = tested-given f song n h m b e in rw (← g.0, lt-leb h.songs song k, g.1)

  pub block-given : accepted b ≡ block_outcome f n
  unfolding block_outcome
  block-given = let g = tested-given f song n h m b e in rw (← g.0, g.2)
