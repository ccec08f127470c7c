-- Two neighbouring lines of a file's header exchanged, not both of them TIME: the blocks of an accepted file
-- are the same. The lines before the two are any, and so are the bytes after them.
-- outcome_without_places   an outcome: a refusal's number and place, or the header but for the places of its
--                        texts
-- either                 neither text ends, or both are of the same lines but for the two
-- blocks-exchanged       of an accepted file: the blocks are the same
-- That the outcome and the time of each song are the same stands in proofs/Outcomes.antt.
use Rattle.std.specs.Prelude.{ℕ, ◌≡◌, false, List}
use Rattle.std.proofs.Common.{sym, ⊎_elim}
use Rattle.std.proofs.lemmas.Bool.{false≢true}
use Rattle.refusals.specs.Numbers.{Outcome}
use Rattle.refusals.specs.Numbers.Outcome.{accepted, refused}
use Rattle.saptext.specs.Text.{text_in}
use Rattle.saptext.specs.Text.Text.{unended}
use Rattle.sapheader.specs.declared.Header.{Header}
use Rattle.sap.specs.Answers.{blocks_after, sap_tests, sap_outcome}
use Rattle.sap.specs.Acceptance.{accepted_none}
use Rattle.saplaws.specs.Unplaced.{without_places}
use Rattle.saplaws.specs.Exchange.{both_time}
use Rattle.saplaws.specs.Files.{with_two, Plain, AllPlain, Exchanged, file-exchanged}

abbrev pub outcome_without_places : Outcome Header → Outcome Header
outcome_without_places (accepted h) = accepted (without_places h)
outcome_without_places (refused number place) = refused number place

module _ (before : List (List ℕ)) (x y q : List ℕ) (p : AllPlain before) (px : Plain x) (py : Plain y) (apart : both_time x y ≡ false) where
  -- Neither text ends, or both are of the same lines but for the two.
  pub either : {A : Type 0} → ((text_in (with_two before x y q) ≡ unended) × (text_in (with_two before y x q) ≡ unended) → A)
      → (Exchanged before x y q → A) → A
  either neither both = ⊎_elim neither both (file-exchanged before q x y p px py)

  module _ (h : Header) (passes : sap_outcome (with_two before x y q) ≡ accepted h) where
    -- Of an accepted file the blocks are the same.
    pub blocks-exchanged : blocks_after (with_two before x y q) ≡ blocks_after (with_two before y x q)
    unfolding sap_tests
    blocks-exchanged =
        either (λ e. absurd (false≢true (sym (rw e.0 at (accepted_none (with_two before x y q) h passes).1.0))))
        (λ e. rw (e.text, e.other) e.blocks)
