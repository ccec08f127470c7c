-- Request (ii), of files that were accepted: no such file has one of the two pairs. So each is answered as it
-- was, and so are its listings.
-- accepted_without     a file that was accepted before has neither 01 83 nor 01 8B
-- accepted_as_before   it is accepted, with the same song
-- accepted-listed      its listings are what they were
use Rattle.std.specs.Prelude.{ℕ, ◌≡◌, Bool, true, false, ◌||◌, List, [], ◌∷◌, eqb}
use Rattle.std.proofs.Math.Path.{sym, subst}
use Rattle.std.proofs.Common.{◌∙◌, eqb-true}
use Rattle.logic.specs.Cases.{cases}
use Rattle.logic.specs.Truth.{both_left, both_right}
use Rattle.fields.specs.declared.Span.{Span}
use Rattle.fields.specs.Parts.{part_of}
use Rattle.refusals.specs.Numbers.Outcome.{accepted}
use Rattle.refusals.specs.Tests.{None}
use Rattle.container.specs.declared.Layout.{Layout}
use Rattle.container.specs.Layout.{container_outcome}
use Rattle.container.specs.Laws.{layout_of_lem}
use Rattle.kind.specs.Kinds.{kind_of}
use Rattle.bodies.specs.Voice.{pairs_by}
use Rattle.bodies.proofs.Phrases.{differ}
use Rattle.structure.specs.Tests.{pair_tests}
use Rattle.structure.specs.Findings.{is_last, pairs_tests, pairs_finding, AllNone}
use Rattle.structure.specs.Laws.{clear_none}
use Rattle.mus.specs.declared.Voice.{Voice}
use Rattle.mus.specs.declared.Song.{Song}
use Rattle.mus.specs.Voices.{voice_by}
use Rattle.mus.specs.Song.{voice_in, song_with, song_in, song_by, mus_outcome}
use Rattle.mus.specs.Acceptance.{found_none, then_given}
use Rattle.phraselaws.specs.Before.{meaning_before, pairs_before, sixteen, Without, WithoutSixteen, AreBytes}
use Rattle.events.specs.Listing.{listing_by, listing}
use Rattle.phraselaws.proofs.Files.{song_as_before, listing_as_before}

-- a pair that the earlier 27 lets pass is neither of the two
pair_without : (a b : ℕ) (last : Bool) → None (pair_tests (kind_of (meaning_before a b)) last) → sixteen a b ≡ false
pair_without a b last none = cases (sixteen a b) (λ e. absurd (unassigned e)) (λ e. e)
  where
    Lets : ℕ → ℕ → Type 0
    Lets j k = None (pair_tests (kind_of (meaning_before j k)) last)

    unassigned : sixteen a b ≡ true → ⊥
    unassigned e =
        let first = eqb-true a 0x01 (both_left (eqb a 0x01) (eqb b 0x83 || eqb b 0x8B) e) in
        let second = both_right (eqb a 0x01) (eqb b 0x83 || eqb b 0x8B) e in
        let lets : Lets 0x01 b = subst (λ (j : ℕ). Lets j b) first none in
        cases (eqb b 0x83) (λ q. differ (sym (subst (Lets 0x01) (eqb-true b 0x83 q) lets).0))
        (λ q. differ (sym (subst (Lets 0x01) (eqb-true b 0x8B (rw q at second)) lets).0))

pairs_without : (bs : List ℕ) → AllNone (pairs_tests (pairs_before bs)) → Without bs
unfolding pairs_before pairs_by pairs_tests AllNone Without
pairs_without [] t = tt
pairs_without (a ∷ []) t = tt
pairs_without (a ∷ b ∷ bs) t = (pair_without a b (is_last (pairs_before bs)) t.0, pairs_without bs t.1)

voice_without : (f : List ℕ) (s : Span) (v : Voice) → voice_in pairs_before f s ≡ accepted v → Without (part_of f s)
unfolding voice_by pairs_finding
voice_without f s v e =
    let stored = pairs_before (part_of f s) in
    pairs_without (part_of f s) (clear_none 0 (pairs_tests stored) (found_none s.from (pairs_finding stored) _ v e).0)

module _ (f : List ℕ) (s : Song) (was : song_by pairs_before f ≡ accepted s) where
  -- A file that was accepted before has neither 01 83 nor 01 8B in its voices,
  pub accepted_without : WithoutSixteen f
  unfolding song_by
  accepted_without =
      let voice = voice_in pairs_before f in
      let right = then_given (container_outcome f) (λ l. song_in voice l) s was in
      let l = right.value in
      let one = then_given (voice l.voice1) _ s right.gives in
      let two = then_given (voice l.voice2) _ s one.gives in
      let three = then_given (voice l.voice3) (λ v3. accepted (song_with l one.value two.value v3)) s two.gives in
      let lies = sym (layout_of_lem f l right.was) in
      record {
        voice1 = subst (λ (x : Layout). Without (part_of f x.voice1)) lies
            (voice_without f l.voice1 one.value one.was);
        voice2 = subst (λ (x : Layout). Without (part_of f x.voice2)) lies
            (voice_without f l.voice2 two.value two.was);
        voice3 = subst (λ (x : Layout). Without (part_of f x.voice3)) lies
            (voice_without f l.voice3 three.value three.was);
      }

  -- so it is accepted now, with the same report,
  pub accepted_as_before : AreBytes f → mus_outcome f ≡ accepted s
  accepted_as_before bytes = sym (song_as_before f bytes accepted_without) ∙ was

  -- and every listing of it is what it was.
  pub accepted-listed : AreBytes f → (voice first : ℕ) (os js : List ℕ)
      → listing_by pairs_before f voice first os js ≡ listing f voice first os js
  accepted-listed bytes = listing_as_before f bytes accepted_without
