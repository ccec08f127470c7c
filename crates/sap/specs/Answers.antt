-- Document 02 (i): what reading a SAP file comes back with. 'Refusals: 51 first line, then 52 a bad line ..
-- or no FF FF, 53 tags against type .. or against SONGS, 54 a bad, cut or missing block; all with place 0'.
-- lines_in, end_in      the lines of a file's header after its first, and where FF FF stands
-- states              what each tag states, by its name alone
-- blocks_after         the blocks of a file
-- sap_tests            51 to 54, in the paper's order
-- header_in            what a file says of itself
-- sap_outcome          the first of 51 to 54 that applies, else the header
-- passing, moment_for, tested_outcome   the same with the time of a song and a block by its number
use Rattle.std.specs.Prelude.{Option, Some, None, ℕ, not, List, [], ◌∷◌, length}
use Rattle.refusals.specs.Numbers.{Outcome}
use Rattle.refusals.specs.Numbers.Outcome.{accepted}
use Rattle.refusals.specs.declared.Reason.TheVariants.{SapFirstLine, SapLine, SapTags, SapBlock}
use Rattle.refusals.specs.declared.Test.{Test}
use Rattle.refusals.specs.Tests.{test, first_of, guarded}
use Rattle.saptags.specs.declared.Tag.{Tag}
use Rattle.saptags.specs.declared.Tag.TheVariants as tag
use Rattle.sapblocks.specs.declared.Block.{Block}
use Rattle.sapblocks.specs.Blocks.{Blocks, blocks_in, are_whole, listed}
use Rattle.sapblocks.specs.Answers.{numbered}
use Rattle.saptext.specs.Text.{StoredLine, Text, text_in}
use Rattle.saptext.specs.Text.Text.{unended, ended}
use Rattle.saptext.specs.declared.Stated.{Stated}
use Rattle.saptext.specs.Stated.{count_of, stated, time_of, bad_text}
use Rattle.saprules.specs.Against.{against}
use Rattle.sapheader.specs.declared.Header.{Header}
use Rattle.sapheader.specs.Header.{header_for}
use Rattle.sap.specs.declared.Tested.{Tested}
use Rattle.sap.specs.FirstLine.{first_line}

abbrev pub lines_in : Text → List StoredLine
lines_in unended = []
lines_in (ended ls end) = ls

abbrev pub end_in : Text → ℕ
end_in unended = 0
end_in (ended ls end) = end

abbrev pub states : List StoredLine → Tag → Option Stated
states ls t = stated t ls

abbrev pub blocks_after : List ℕ → Blocks
blocks_after f = blocks_in f (end_in (text_in f))

unfoldable pub sap_tests : List ℕ → List Test
sap_tests f =
    let ls = lines_in (text_in f) in
    -- 51: the first line
    test SapFirstLine (not (first_line f))
    -- 52: a bad line, or no FF FF
    ∷ test SapLine (bad_text (text_in f))
    -- 53: tags against type or against SONGS
    ∷ test SapTags (against (states ls) (count_of tag.Time ls))
    -- 54: a bad, cut or missing block
    ∷ test SapBlock (not (are_whole (blocks_after f)))
    ∷ []

unfoldable pub header_in : List ℕ → Header
header_in f =
    let ls = lines_in (text_in f) in
    header_for (states ls) (count_of tag.Time ls) (length (listed (blocks_after f))) (end_in (text_in f))

unfoldable pub sap_outcome : List ℕ → Outcome Header
sap_outcome f = guarded (first_of (sap_tests f)) (accepted (header_in f))

-- the header, what TIME states for a song, and a block by its number
abbrev pub passing : Header → Option ℕ → Option Block → Tested
passing h m b = record { header = h; time = m; block = b }

-- the value of TIME is 2 × milliseconds, plus 1 where LOOP follows
abbrev pub moment_for : Option Stated → Option ℕ
moment_for None = None
moment_for (Some s) = Some s.value

unfoldable pub tested_outcome : List ℕ → ℕ → ℕ → Outcome Tested
tested_outcome f song n =
    guarded (first_of (sap_tests f))
    (accepted (passing (header_in f) (moment_for (time_of song (lines_in (text_in f)))) (numbered (listed (blocks_after f)) n)))
