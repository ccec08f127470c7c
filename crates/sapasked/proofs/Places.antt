-- What is asked of a SAP file by a number has refusals with a number above 0 and a small place.
-- time-low, block-low   so of a song's time and of a block
use Prim.Native.Nat.{ℕ}
use mathlib.Core.List.{List}
use Rattle.refusals.specs.Numbers.{Outcome}
use Rattle.refusals.specs.Numbers.Outcome.{accepted, refused}
use Rattle.refusals.specs.Tests.{and_then, first_of, guarded}
use Rattle.std.specs.Prelude.{Option}
use Rattle.sapblocks.specs.declared.Block.{Block}
use Rattle.sapheader.specs.declared.Header.{Header}
use Rattle.sap.specs.Answers.{sap_outcome}
use Rattle.sapparts.specs.declared.Duration.{Duration}
use Rattle.sapparts.specs.Asked.{song_tests, time_outcome, block_outcome}
use Rattle.answers.specs.Apart.{LowPlace, tests_low}
use Rattle.sapcalls.proofs.Places.{sap-low}

pub time-low : (f : List ℕ) (song : ℕ) → LowPlace (time_outcome f song)
unfolding time_outcome
time-low f song = go _ (sap_outcome f) (sap-low f)
  where
    go : (a : Option Duration) (o : Outcome Header) → LowPlace o → LowPlace (and_then o (λ h. guarded (first_of (song_tests h.songs song)) (accepted a)))
    go a (accepted h) l = tests_low (song_tests h.songs song) (accepted a) tt
    go a (refused n p) l = l

pub block-low : (f : List ℕ) (number : ℕ) → LowPlace (block_outcome f number)
unfolding block_outcome
block-low f number = go _ (sap_outcome f) (sap-low f)
  where
    go : (w : Option Block) (o : Outcome Header) → LowPlace o → LowPlace (and_then o (λ h. accepted w))
    go w (accepted h) l = tt
    go w (refused n p) l = l
