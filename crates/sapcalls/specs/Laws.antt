-- docs/INTERFACE.md, 'The fields, times and blocks of a SAP file': '0 and 0 where there is no such tag', and
-- 'A text can be empty: then its length is 0, and its offset is not.'
-- TextsTold    the offset of each text of a header is 0 only where the text is absent
-- texts_told   so for each accepted file
use Rattle.std.specs.Prelude.{Option, Some, None, ℕ, ◌≡◌, refl, List, true, not, eqb}
use Rattle.std.proofs.Common.{subst, sym, ap, ◌∙◌, arith, eq-eqb}
use Rattle.std.proofs.lemmas.Bool.{false≢true}
use Rattle.refusals.specs.Numbers.Outcome.{accepted}
use Rattle.saptags.specs.declared.Tag.{Tag}
use Rattle.saptags.specs.declared.Tag.TheVariants as tag
use Rattle.saptext.specs.Text.{StoredLine, text_in}
use Rattle.saptext.specs.declared.Stated.{Stated}
use Rattle.saptext.specs.Stated.{stated}
use Rattle.saptext.specs.Reading.{place_of, value_of, state_of}
use Rattle.saptext.specs.Laws.{nth_restated}
use Rattle.saprules.specs.Against.{is_stated}
use Rattle.saprules.specs.Laws.{stated-place}
use Rattle.sapheader.specs.declared.Header.{Header}
use Rattle.sapheader.specs.Header.{text_for, header_for}
use Rattle.sap.specs.Answers.{lines_in, header_in, sap_outcome}
use Rattle.sap.specs.Acceptance.{accepted-header}
use Rattle.sapcalls.specs.Lists.{offset_number}

pub record TextsTold (h : Header) : Type 0 where
  pub author : offset_number h.author ≡ 0 → h.author ≡ None
  pub name : offset_number h.name ≡ 0 → h.name ≡ None
  pub date : offset_number h.date ≡ 0 → h.date ≡ None

-- A text that is there stands after its tag's name: the place that its tag states is not 0.
text-told : (t : Tag) (ls : List StoredLine) → offset_number (text_for (stated t ls)) ≡ 0 → text_for (stated t ls) ≡ None
text-told t ls = go (stated t ls) (nth_restated t 0 ls)
  where
    go : (s : Option Stated) → state_of (place_of s) (value_of s) ≡ s → offset_number (text_for s) ≡ 0 → text_for s ≡ None
    go None r e = refl
    go (Some s) r e =
        let first : s.place ≡ 0 = omega (arith, e) in
        let there : true ≡ not (eqb s.place 0) = ap is_stated (sym r) ∙ stated-place s.place s.value in
        absurd (false≢true (sym (rw (eq-eqb s.place 0 first) at there)))

-- Of an accepted file the offset of the author, the name or the date is 0 only where there is no such tag: an
-- empty text has another.
pub texts_told : (f : List ℕ) (h : Header) → sap_outcome f ≡ accepted h → TextsTold h
unfolding header_in header_for
texts_told f h e =
    let ls = lines_in (text_in f) in
    subst TextsTold (accepted-header f h e)
    record { author = text-told tag.Author ls; name = text-told tag.Name ls; date = text-told tag.Date ls }
