-- The outcome of each way through the tests of a file. Assumes nothing.
-- lacking, present   a value that is not there, or is, from what `ok_or` gives
-- line_failed      51
-- text_failed      52
-- cells-most       the values that were read are as great as the tags allow
-- tags_failed, blocks_failed   53, 54
-- all_passed       none
use Prim.Native.Nat.{ℕ, ◌≤◌}
use mathlib.Core.Path.{◌≡◌, refl, sym, ap, ◌∙◌}
use mathlib.Core.Bool.{true, false}
use mathlib.Core.List.{List}
use Rattle.std.specs.Prelude.{Ok, Err, Option, Some, None}
use Rattle.std.specs.Option.{ok_or}
use native.Mathlib.Omega.{arith}
use Rattle.refusals.specs.Numbers.Outcome.{accepted, refused}
use Rattle.saptags.specs.declared.Tag.{Tag}
use Rattle.saptags.specs.declared.Tag.TheVariants as tag
use Rattle.saplines.specs.Laws.{most_of}
use Rattle.sapblocks.specs.declared.Walked.{Walked}
use Rattle.sapblocks.specs.Blocks.{blocks_in}
use Rattle.sapblocks.specs.Answers.{walked_in}
use Rattle.sapblocks.specs.Laws.{walked-spoilt, walked-counted}
use Rattle.saptext.specs.declared.Lines.{Lines}
use Rattle.saptext.specs.Text.{text_in}
use Rattle.saptext.specs.declared.Stated.{Stated}
use Rattle.saptext.specs.Stated.{count_of}
use Rattle.saptext.specs.Reading.{value_of, states_of, which_of, counts, text_read}
use Rattle.saptext.specs.Laws.{cell_at, nth_most, Known, read-spoilt}
use Rattle.saprules.specs.Against.{against}
use Rattle.sapheader.specs.declared.Header.{Header}
use Rattle.sapheader.specs.Header.{header_for}
use Rattle.sap.specs.FirstLine.{first_line}
use Rattle.sap.specs.Answers.{states, sap_tests, header_in, moment_for, passing, tested_outcome}

pub lacking : {A B : Type 0} (o : Option A) (x y : B) → Err x ≡ ok_or o y → (o ≡ None) × (x ≡ y)
lacking None x y e = (refl, cc)
lacking (Some a) x y e = absurd (let z : ◌≡◌ {A = ℕ} 0 1 = cc in omega arith)

pub present : {A B : Type 0} (o : Option A) (a : A) (y : B) → Ok a ≡ ok_or o y → o ≡ Some a
present None a y e = absurd (let z : ◌≡◌ {A = ℕ} 0 1 = cc in omega arith)
present (Some b) a y e = let same : a ≡ b = cc in ap Some (sym same)

module _ (f : List ℕ) (song n : ℕ) where
  pub line_failed : first_line f ≡ false → refused 51 0 ≡ tested_outcome f song n
  unfolding tested_outcome sap_tests
  line_failed e = rw e

  pub text_failed : first_line f ≡ true → None ≡ text_read song (text_in f) → refused 52 0 ≡ tested_outcome f song n
  unfolding tested_outcome sap_tests
  text_failed first e = rw (first, read-spoilt song (text_in f) e)

  -- of lines that were read
  module _ (x : Lines) (k : Known song (text_in f) x) where
    cells-states : (t : Tag) → states_of x.cells t ≡ counts song k.lines t
    cells-states t = rw k.cells (cell_at (counts song k.lines) None t)

    pub cells-most : (t : Tag) → value_of (states_of x.cells t) ≤ most_of t
    cells-most t = rw (cells-states t) (nth_most t (which_of song t) k.lines)

    cells_same : states_of x.cells ≡ counts song k.lines
    cells_same = λ i t. cells-states t i

    -- the test of the tags and the header look at no tag that a song's number changes
    against_same : against (states_of x.cells) x.times ≡ against (states k.lines) (count_of tag.Time k.lines)
    unfolding against
    against_same = ap (λ (g : Tag → Option Stated). against g x.times) cells_same ∙ ap (against (counts song k.lines)) k.times

    header_same : (blocks : ℕ) → header_for (states_of x.cells) x.times blocks x.end ≡ header_for (states k.lines) (count_of tag.Time k.lines) blocks x.end
    unfolding header_for
    header_same blocks =
        ap (λ (g : Tag → Option Stated). header_for g x.times blocks x.end) cells_same
        ∙ ap (λ (times : ℕ). header_for (counts song k.lines) times blocks x.end) k.times

    module _ (first : first_line f ≡ true) where
      pub tags_failed : against (states_of x.cells) x.times ≡ true → refused 53 0 ≡ tested_outcome f song n
      unfolding tested_outcome sap_tests
      tags_failed a = rw (first, k.text, k.fine, ← against_same, a)

      module _ (a : against (states_of x.cells) x.times ≡ false) where
        pub blocks_failed : None ≡ walked_in (blocks_in f x.end) n → refused 54 0 ≡ tested_outcome f song n
        unfolding tested_outcome sap_tests
        blocks_failed w = rw (first, k.text, k.fine, ← against_same, a, walked-spoilt (blocks_in f x.end) n w)

        pub all_passed : (w : Walked) (h : Header) (m : Option ℕ) → Some w ≡ walked_in (blocks_in f x.end) n
            → h ≡ header_for (states_of x.cells) x.times w.count x.end
            → m ≡ moment_for (states_of x.cells tag.Time)
            → accepted (passing h m w.wanted) ≡ tested_outcome f song n
        unfolding tested_outcome sap_tests header_in
        all_passed w h m e eh em =
            let c = walked-counted (blocks_in f x.end) n w e in
            let time : m ≡ moment_for (counts song k.lines tag.Time) = em ∙ ap moment_for (cells-states tag.Time) in
            let header = eh ∙ header_same w.count in
            rw (first, k.text, k.fine, ← against_same, a, c.0, header, time, c.1, c.2)
