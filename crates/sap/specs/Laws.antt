-- Laws of reading a SAP file.
-- sap-once, tested-once   no two answers have the same outcome
-- headed, read-tested     the outcome of the tests, without the time and the block, is that of the call
-- tested-given            what a file that passes the tests is answered with
-- accepted-first-line     a file that is accepted begins with the line SAP
use Rattle.std.specs.Prelude.{Result, Ok, Err, Option, ℕ, ◌≡◌, refl, true, List}
use Rattle.std.proofs.Common.{sym, ap, ◌∙◌}
use Rattle.std.proofs.lemmas.Bool.{not-false}
use Rattle.refusals.specs.Numbers.{Outcome, outcome_of}
use Rattle.refusals.specs.Numbers.Outcome.{accepted, refused}
use Rattle.refusals.specs.declared.Refusal.{Refusal}
use Rattle.refusals.specs.Tests.{Verdict, first_of, guarded}
use Rattle.refusals.specs.Laws.{guarded-accepted, outcome-once}
use Rattle.sapheader.specs.declared.Header.{Header}
use Rattle.sapblocks.specs.declared.Block.{Block}
use Rattle.sapblocks.specs.Blocks.{listed}
use Rattle.sapblocks.specs.Answers.{numbered}
use Rattle.saptext.specs.Text.{text_in}
use Rattle.saptext.specs.Stated.{time_of}
use Rattle.sap.specs.declared.Tested.{Tested}
use Rattle.sap.specs.FirstLine.{first_line}
use Rattle.sap.specs.Answers.{lines_in, blocks_after, moment_for, sap_tests, header_in, sap_outcome, passing, tested_outcome}
use Rattle.sap.specs.Acceptance.{accepted_none}

-- No two answers have the same outcome: an equation of `outcome_of` leaves the answer no freedom.
pub sap-once : (r s : Result Header Refusal) → outcome_of r ≡ outcome_of s → r ≡ s
sap-once = outcome-once

-- No two answers of the tests have the same outcome.
pub tested-once : (r s : Result Tested Refusal) → outcome_of r ≡ outcome_of s → r ≡ s
tested-once = outcome-once

abbrev pub headed : Outcome Tested → Outcome Header
headed (accepted p) = accepted p.header
headed (refused n place) = refused n place

-- The outcome of the tests, whatever song and block are asked for, has that of reading.
pub read-tested : (f : List ℕ) (song n : ℕ) (o : Outcome Tested) → o ≡ tested_outcome f song n → headed o ≡ sap_outcome f
unfolding tested_outcome sap_outcome
read-tested f song n o e = ap headed e ∙ go (moment_for (time_of song (lines_in (text_in f)))) (numbered (listed (blocks_after f)) n) (first_of (sap_tests f))
  where
    go : (m : Option ℕ) (b : Option Block) (v : Verdict) → headed (guarded v (accepted (passing (header_in f) m b))) ≡ guarded v (accepted (header_in f))
    go m b (Ok _) = refl
    go m b (Err k) = refl

-- A file that is accepted begins with the line SAP.
pub accepted-first-line : (f : List ℕ) (h : Header) → sap_outcome f ≡ accepted h → first_line f ≡ true
unfolding sap_tests
accepted-first-line f h e = not-false (first_line f) (accepted_none f h e).0

-- Where a file passes the tests, the answer is its header, what TIME states for the song and the block.
pub tested-given : (f : List ℕ) (song n : ℕ) (h : Header) (m : Option ℕ) (b : Option Block) → accepted (passing h m b) ≡ tested_outcome f song n
    → (accepted h ≡ sap_outcome f) × (m ≡ moment_for (time_of song (lines_in (text_in f)))) × (b ≡ numbered (listed (blocks_after f)) n)
unfolding tested_outcome
tested-given f song n h m b e =
    let g = guarded-accepted (first_of (sap_tests f)) (passing h m b) (passing (header_in f) (moment_for (time_of song (lines_in (text_in f)))) (numbered (listed (blocks_after f)) n)) (sym e) in
    (read-tested f song n (accepted (passing h m b)) e, ap (λ (p : Tested). p.time) (sym g.1), ap (λ (p : Tested). p.block) (sym g.1))
