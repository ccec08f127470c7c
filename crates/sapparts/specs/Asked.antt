-- Document 02 (i) and source 002: what a caller asks of a SAP file by a number: the time of a song, a block.
-- lasts, lasting     what TIME states for a song, if it does: how many milliseconds it lasts and whether LOOP
--                    follows
-- song_tests          44, 'no such song': songs are 'zero-based', so song n is there where n is below SONGS
-- time_outcome        the file's own refusal, then 44, else what TIME states
-- block_outcome       the file's own refusal, else the block of a number, from zero, if there is one
use Rattle.std.specs.Prelude.{Option, Some, None, ℕ, ◌/◌, ◌%◌, Bool, List, [], ◌∷◌, leb, eqb}
use Rattle.refusals.specs.Numbers.{Outcome}
use Rattle.refusals.specs.Numbers.Outcome.{accepted}
use Rattle.refusals.specs.declared.Reason.TheVariants.{NoSuchSong}
use Rattle.refusals.specs.declared.Test.{Test}
use Rattle.refusals.specs.Tests.{test, first_of, guarded, and_then}
use Rattle.sapblocks.specs.declared.Block.{Block}
use Rattle.sapblocks.specs.Blocks.{listed}
use Rattle.sapblocks.specs.Answers.{numbered}
use Rattle.saptext.specs.Text.{text_in}
use Rattle.saptext.specs.Stated.{time_of}
use Rattle.sap.specs.Answers.{lines_in, blocks_after, moment_for, sap_outcome}
use Rattle.sapparts.specs.declared.Duration.{Duration}

abbrev pub lasts : ℕ → Bool → Option Duration
lasts milliseconds looped = Some (record { milliseconds = milliseconds; looped = looped })

abbrev pub lasting : Option ℕ → Option Duration
lasting None = None
lasting (Some value) = lasts (value / 2) (eqb (value % 2) 1)

abbrev pub song_tests : ℕ → ℕ → List Test
song_tests songs song = test NoSuchSong (leb songs song) ∷ []

unfoldable pub time_outcome : List ℕ → ℕ → Outcome (Option Duration)
time_outcome f song =
    and_then (sap_outcome f)
    (λ h. guarded (first_of (song_tests h.songs song)) (accepted (lasting (moment_for (time_of song (lines_in (text_in f)))))))

unfoldable pub block_outcome : List ℕ → ℕ → Outcome (Option Block)
block_outcome f n = and_then (sap_outcome f) (λ h. accepted (numbered (listed (blocks_after f)) n))
