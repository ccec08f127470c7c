-- Request (ii), of files: a file without the pairs 01 83 and 01 8B is answered as it was before, and so are
-- its listings. The same holds of a file that 21 to 26 refuse, whatever its bytes are.
-- pairs_as_before       the stored pairs of a voice without the two pairs
-- song_as_before        the whole outcome of a file: number and place, or the song with its counts
-- asked_as_before       a voice of it, by its number
-- listing_as_before     the listing of each of its voices: the answer, and both lists
-- refused_as_before, refused-listed   the outcome and the listings of a file that 21 to 26 refuse
use Rattle.std.specs.Prelude.{ℕ, zero, suc, ◌≤◌, ◌≡◌, refl, List, [], ◌∷◌, eqb, length, take, drop}
use Rattle.std.proofs.Common.{sym, ap, ◌∙◌}
use Rattle.std.proofs.Math.Path.{subst}
use Rattle.logic.specs.Cases.{cases}
use Rattle.fields.specs.declared.Span.{Span}
use Rattle.fields.specs.Parts.{part_of}
use Rattle.refusals.specs.Numbers.{Outcome}
use Rattle.refusals.specs.Numbers.Outcome.{accepted, refused}
use Rattle.refusals.specs.Tests.{Verdict, first_of, guarded, and_then}
use Rattle.refusals.specs.Laws.{two_ways, guarded-passed}
use Rattle.container.specs.declared.Layout.{Layout}
use Rattle.container.specs.Head.{head_of, voices_of, voice_span}
use Rattle.container.specs.Layout.{layout_of, container_outcome}
use Rattle.container.specs.Laws.{layout_of_lem}
use Rattle.bodies.specs.Bodies.{Event}
use Rattle.bodies.specs.Voice.{Reader, pairs_by, pairs}
use Rattle.bodies.specs.Playing.{played}
use Rattle.mus.specs.declared.Voice.{Voice}
use Rattle.mus.specs.declared.Song.{Song}
use Rattle.mus.specs.Voices.{voice_by}
use Rattle.mus.specs.Song.{voice_in, song_in, song_by, mus_outcome}
use Rattle.mus.specs.Laws.{container-refused}
use Rattle.mus.proofs.ByNumber.{low-number}
use Rattle.mus.specs.Asked.{song_voice, asked_by, voice_asked, bytes_of}
use Rattle.mus.specs.AskedLaws.{asked-accepted, voice-bytes}
use Rattle.events.specs.Listing.{caller_tests, played_by, window_of, filled_by, listing_by, listing}
use Rattle.phraselaws.specs.Before.{pairs_before, Without, WithoutSixteen, AreBytes}
use Rattle.phraselaws.proofs.Pairs.{means_as_before}

take-bytes : (n : ℕ) (f : List ℕ) → AreBytes f → AreBytes (take n f)
unfolding AreBytes
take-bytes zero f h = tt
take-bytes (suc n) [] h = tt
take-bytes (suc n) (b ∷ f) h = (h.0, take-bytes n f h.1)

drop-bytes : (n : ℕ) (f : List ℕ) → AreBytes f → AreBytes (drop n f)
unfolding AreBytes
drop-bytes zero f h = h
drop-bytes (suc n) [] h = tt
drop-bytes (suc n) (b ∷ f) h = drop-bytes n f h.1

-- The stored pairs of a voice without 01 83 and 01 8B are what they were before.
pub pairs_as_before : (bs : List ℕ) → AreBytes bs → Without bs → pairs_before bs ≡ pairs bs
unfolding pairs_before pairs pairs_by Without AreBytes
pairs_as_before [] h w = refl
pairs_as_before (a ∷ []) h w = refl
pairs_as_before (a ∷ b ∷ bs) h w =
    λ i. means_as_before a b h.0 h.1.0 w.0 i ∷ pairs_as_before bs h.1.1 w.1 i

-- what comes after a part is the same where it is the same for the part's value
then_same : {A B : Type 0} (o : Outcome A) (g h : A → Outcome B) → ((a : A) → o ≡ accepted a → g a ≡ h a)
    → and_then o g ≡ and_then o h
then_same (accepted a) g h same = same a refl
then_same (refused n p) g h same = refl

-- what a listing leaves is the same where the voice has the same events
filled_same : (es gs : Voice → List Event) (first : ℕ) (os js : List ℕ) (o : Outcome Voice)
    → ((v : Voice) → o ≡ accepted v → es v ≡ gs v) → filled_by es first os js o ≡ filled_by gs first os js o
filled_same es gs first os js (accepted v) same = λ i. window_of v (same v refl i) first os js
filled_same es gs first os js (refused n p) same = refl

module _ (f : List ℕ) where
  -- a reader that gives a file today's outcome, and each voice of an accepted file today's pairs, gives
  -- today's listings
  listed_so : (read : Reader) → song_by read f ≡ mus_outcome f
      → ((s : Song) (n : ℕ) → mus_outcome f ≡ accepted s
      → read (bytes_of f (song_voice s n)) ≡ pairs (bytes_of f (song_voice s n)))
      → (voice first : ℕ) (os js : List ℕ) → listing_by read f voice first os js ≡ listing f voice first os js
  unfolding listing_by asked_by played_by
  listed_so read song stored voice first os js =
      let verdict = first_of (caller_tests voice (length os) (length js)) in
      rw song
      (filled_same (played_by read f) (played_by pairs f) first os js (guarded verdict (voice_asked f voice)) (same verdict))
    where
      same : (verdict : Verdict) (v : Voice) → guarded verdict (voice_asked f voice) ≡ accepted v
          → played_by read f v ≡ played_by pairs f v
      same verdict v e =
          let asked = asked-accepted f voice v (guarded-passed verdict (voice_asked f voice) v e).1 in
          subst (λ (x : Voice). played (read (bytes_of f x)) ≡ played (pairs (bytes_of f x))) asked.voice
          (ap played (stored asked.song voice asked.file))

  -- A file that is refused with 21 to 26 was refused so before, at the same place, whatever its bytes are,
  pub refused_as_before : (n p : ℕ) → mus_outcome f ≡ refused n p → n ≤ 26 → song_by pairs_before f ≡ refused n p
  refused_as_before n p e low = container-refused pairs_before f n p (low-number f n p e low)

  -- and every listing of it is what it was.
  pub refused-listed : (n p : ℕ) → mus_outcome f ≡ refused n p → n ≤ 26 → (voice first : ℕ) (os js : List ℕ)
      → listing_by pairs_before f voice first os js ≡ listing f voice first os js
  refused-listed n p e low =
      listed_so pairs_before (refused_as_before n p e low ∙ sym e) (λ s k a. absurd (two_ways (sym e ∙ a)))

  module _ (bytes : AreBytes f) (without : WithoutSixteen f) where
    part_as_before : (s : Span) → Without (part_of f s) → pairs_before (part_of f s) ≡ pairs (part_of f s)
    part_as_before s w =
        pairs_as_before (part_of f s) (take-bytes s.len (drop s.from f) (drop-bytes s.from f bytes)) w

    span_as_before : (s : Span) → Without (part_of f s) → voice_in pairs_before f s ≡ voice_in pairs f s
    unfolding voice_by
    span_as_before s w = rw (part_as_before s w)

    -- A file whose three voices have none of the two pairs has the outcome that it had before: the same
    -- refusal at the same place, or the same song with its counts.
    pub song_as_before : song_by pairs_before f ≡ mus_outcome f
    unfolding song_by
    song_as_before =
        let l = layout_of f in
        then_same (container_outcome f) _ _
        (λ x e. subst (λ (x : Layout). song_in (voice_in pairs_before f) x ≡ song_in (voice_in pairs f) x) (layout_of_lem f x e)
        (rw (
          span_as_before l.voice1 without.voice1,
          span_as_before l.voice2 without.voice2,
          span_as_before l.voice3 without.voice3,
        )))

    -- A voice of such a file, by its number, is answered as it was.
    pub asked_as_before : (n : ℕ) → asked_by pairs_before f n ≡ voice_asked f n
    unfolding asked_by
    asked_as_before n = rw song_as_before

    at_number : (n : ℕ) → Without (part_of f (voice_span (voices_of (head_of f)) n))
    unfolding layout_of
    at_number n =
        cases (eqb n 1) (λ a. rw a without.voice1)
        (λ a. cases (eqb n 2) (λ b. rw (a, b) without.voice2) (λ b. rw (a, b) without.voice3))

    -- Every listing of such a file is what it was before: the answer, and every cell of both lists.
    pub listing_as_before : (voice first : ℕ) (os js : List ℕ)
        → listing_by pairs_before f voice first os js ≡ listing f voice first os js
    listing_as_before =
        listed_so pairs_before song_as_before
        (λ s n e. rw (voice-bytes f s n e) (part_as_before (voice_span (voices_of (head_of f)) n) (at_number n)))
