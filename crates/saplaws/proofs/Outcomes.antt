-- Two neighbouring lines of a file's header exchanged, not both of them TIME: reading the file comes back
-- with the same but for where texts stand. The lines before the two are any, and so are the bytes after them.
-- outcome_exchanged      the law
-- time-exchanged         of an accepted file: what TIME states for each song is the same
use Rattle.std.specs.Prelude.{ℕ, ◌≡◌, refl, false, List, length}
use Rattle.std.proofs.Common.{ap}
use Rattle.logic.specs.Cases.{cases}
use Rattle.refusals.specs.Numbers.Outcome.{accepted}
use Rattle.saptags.specs.declared.Tag.TheVariants as tag
use Rattle.sapblocks.specs.Blocks.{blocks_in, are_whole, listed}
use Rattle.saptext.specs.Text.{text_in}
use Rattle.saptext.specs.Stated.{bad_lines, count_of, time_of}
use Rattle.saprules.specs.Against.{against}
use Rattle.sapheader.specs.declared.Header.{Header}
use Rattle.sap.specs.FirstLine.{first_line}
use Rattle.sap.specs.Answers.{lines_in, states, moment_for, sap_tests, header_in, sap_outcome}
use Rattle.sap.specs.Acceptance.{accepted_none}
use Rattle.saplaws.specs.Unplaced.{alike}
use Rattle.saplaws.specs.Exchange.{both_time, as_is, exchanged, lines-exchanged}
use Rattle.saplaws.specs.Files.{with_two, Plain, AllPlain, Exchanged}
use Rattle.saplaws.specs.Outcomes.{outcome_without_places, either}
use Rattle.saplaws.proofs.Exchange.{nth_exchanged}
use Rattle.saplaws.proofs.Header.{against-exchanged, header-exchanged}

module _ (before : List (List ℕ)) (x y q : List ℕ) (p : AllPlain before) (px : Plain x) (py : Plain y) (apart : both_time x y ≡ false) where
  -- The file is refused with the same number and place, or accepted with the same header but for where texts
  -- stand.
  pub outcome_exchanged : outcome_without_places (sap_outcome (with_two before x y q)) ≡ outcome_without_places (sap_outcome (with_two before y x q))
  unfolding sap_outcome sap_tests header_in first_line
  outcome_exchanged =
      either before x y q p px py apart (λ e. rw (e.0, e.1))
      (λ e.
      let same = lines-exchanged x y e.after 5 before in
      rw (e.text, e.other, e.blocks)
      (cases (bad_lines (as_is x y e.after 5 before))
      (λ bad. rw (← same, bad))
      (λ fine.
      let header = header-exchanged x y e.after apart 5 before fine in
      let ls = exchanged x y e.after 5 before in
      let blocks = blocks_in (with_two before y x q) e.end in
      rw (← same, fine, against-exchanged x y e.after apart 5 before fine)
      (cases (against (states ls) (count_of tag.Time ls)) (λ a. rw a)
      (λ a. rw a (cases (are_whole blocks) (λ w. rw w (ap accepted (header (length (listed blocks)) e.end))) (λ w. rw w)))))))

  module _ (h : Header) (passes : sap_outcome (with_two before x y q) ≡ accepted h) where
    -- the lines of an accepted file are good
    good : (e : Exchanged before x y q) → bad_lines (as_is x y e.after 5 before) ≡ false
    unfolding sap_tests
    good e = rw e.text at (accepted_none (with_two before x y q) h passes).1.0

    -- Of an accepted file what TIME states for each song is the same.
    pub time-exchanged : (n : ℕ)
        → moment_for (time_of n (lines_in (text_in (with_two before x y q)))) ≡ moment_for (time_of n (lines_in (text_in (with_two before y x q))))
    time-exchanged n =
        either before x y q p px py apart (λ e. rw (e.0, e.1))
        (λ e.
        rw (e.text, e.other)
        (alike moment_for (λ a b. refl) (time_of n (as_is x y e.after 5 before)) (time_of n (exchanged x y e.after 5 before))
        (nth_exchanged x y e.after apart 5 before (good e) tag.Time n)))
