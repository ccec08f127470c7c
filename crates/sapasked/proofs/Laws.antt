-- Each call that asks something of a SAP file by a number tells a value from a refusal (`Apart`), and
-- tt_sap_time a time from an unstated one.
-- flag_low        a flag is at most 1
-- asked_answers   so for tt_sap_time and tt_sap_block
use Prim.Native.Nat.{ℕ, ◌/◌, ◌<◌, ◌≤◌}
use mathlib.Core.Path.{◌≡◌, ap}
use Rattle.std.proofs.lemmas.Option.{same_Some}
use mathlib.Core.Bool.{Bool, true, false}
use mathlib.Core.List.{List}
use native.Mathlib.Omega.{arith}
use lib.Dec.{lit<}
use lib.ListN.{length}
use Rattle.refusals.specs.Numbers.{Outcome}
use Rattle.refusals.specs.Numbers.Outcome.{accepted, refused}
use Rattle.refusals.specs.Tests.{and_then, first_of, guarded}
use Rattle.refusals.specs.Laws.{two_ways, guarded-accepted}
use Rattle.saptags.specs.declared.Tag.TheVariants as tag
use Rattle.saptext.specs.Text.{text_in}
use Rattle.std.specs.Prelude.{Option, Some, None}
use Rattle.saptext.specs.declared.Stated.{Stated}
use Rattle.saptext.specs.Stated.{time_of}
use Rattle.saptext.specs.Reading.{value_of}
use Rattle.saptext.specs.Laws.{nth_most}
use Rattle.sapblocks.specs.declared.Block.{Block}
use Rattle.sapheader.specs.declared.Header.{Header}
use Rattle.sap.specs.Answers.{lines_in, moment_for, sap_outcome}
use Rattle.sapparts.specs.Asked.{lasts, lasting, song_tests, time_outcome, block_outcome}
use Rattle.sapparts.specs.declared.Duration.{Duration}
use Rattle.answers.specs.Apart.{low-apart}
use Rattle.sapcalls.specs.Lists.{flag_number}
use Rattle.sapasked.specs.Lists.{time_number, block_numbers}
use Rattle.sapasked.specs.Statements.{AskedAnswers}
use Rattle.sapasked.proofs.Places.{time-low, block-low}

few : (w : Option Block) → length (block_numbers w) < 0x100000000
few None = lit< tt
few (Some b) = lit< tt

pub flag_low : (b : Bool) → flag_number b ≤ 1
flag_low true = omega arith
flag_low false = omega arith

-- what is given for a song is what TIME states for it
given-time : (a : Option Duration) (o : Outcome Header) (song : ℕ) (x : Option Duration)
    → and_then o (λ h. guarded (first_of (song_tests h.songs song)) (accepted a)) ≡ accepted x → a ≡ x
given-time a (accepted h) song x e = (guarded-accepted (first_of (song_tests h.songs song)) x a e).1
given-time a (refused n p) song x e = absurd (two_ways e)

module _ (f : List ℕ) (song : ℕ) where
  abbrev asked : Option Stated
  asked = time_of song (lines_in (text_in f))

  -- a time that is stated is small: at most 99:99.999 with LOOP
  time-small : (milliseconds : ℕ) (looped : Bool) → time_outcome f song ≡ accepted (lasts milliseconds looped)
      → time_number (lasts milliseconds looped) < 0xFFFFFFFF
  unfolding time_outcome
  time-small milliseconds looped e =
      go asked (nth_most tag.Time song (lines_in (text_in f))) (given-time (lasting (moment_for asked)) (sap_outcome f) song (lasts milliseconds looped) e)
    where
      go : (s : Option Stated) → value_of s ≤ 12079999 → lasting (moment_for s) ≡ lasts milliseconds looped
          → time_number (lasts milliseconds looped) < 0xFFFFFFFF
      go None h q = absurd (let z : ◌≡◌ {A = ℕ} 0 1 = cc in omega arith)
      go (Some s) h q =
          let is : s.value / 2 ≡ milliseconds = ap (λ (d : Duration). d.milliseconds) (same_Some _ _ q) in
          omega (arith, flag_low looped, is)

  time-fits : (x : Option Duration) → time_outcome f song ≡ accepted x → time_number x < 0x100000000
  time-fits None e = lit< tt
  time-fits (Some d) e = omega (arith, time-small d.milliseconds d.looped e)

pub asked_answers : (f : List ℕ) → AskedAnswers f
asked_answers f = record {
  time-apart = λ song. low-apart time_number (time_outcome f song) (time-fits f song) (time-low f song);
  time-stated = time-small f;
  block_apart = λ number. low-apart (λ b. length (block_numbers b)) (block_outcome f number) (λ b e. few b) (block-low f number);
}
