-- A file's head is right exactly where its refusal, if there is one, has a number above 24. A number up to 26
-- comes from its container.
-- head-above    a file whose head is right is refused with a number above 24
-- low-number    a file that is refused with a number up to 26 is refused so by its container
use Rattle.std.specs.Prelude.{ℕ, ◌<◌, ◌≤◌, ◌≡◌, refl, List}
use Rattle.std.proofs.Common.{subst, arith}
use Rattle.fields.specs.declared.Span.{Span}
use Rattle.refusals.specs.Numbers.{Outcome}
use Rattle.refusals.specs.Numbers.Outcome.{accepted, refused}
use Rattle.refusals.specs.Tests.{and_then}
use Rattle.container.specs.declared.Voices.{Voices}
use Rattle.container.specs.declared.Layout.{Layout}
use Rattle.container.specs.Head.{head_outcome}
use Rattle.container.specs.Layout.{container_outcome}
use Rattle.container.specs.ByNumber.{text-number}
use Rattle.bodies.specs.Voice.{pairs}
use Rattle.mus.specs.Song.{voice_in, song_with, song_in, song_by, mus_outcome}
use Rattle.mus.specs.ByNumber.{Above, voice-above}

-- an outcome that comes after another
then_above : {A B : Type 0} (k : ℕ) (o : Outcome A) (g : A → Outcome B)
    → Above k o → ((a : A) → Above k (g a)) → Above k (and_then o g)
then_above k (accepted a) g l h = h a
then_above k (refused n p) g l h = l

lower : {A : Type 0} (o : Outcome A) → Above 26 o → Above 24 o
lower (accepted a) l = tt
lower (refused n p) l = omega arith

module _ (f : List ℕ) where
  span_above : (s : Span) → Above 26 (voice_in pairs f s)
  span_above s = voice-above _ _

  song-above : (l : Layout) → Above 26 (song_in (voice_in pairs f) l)
  song-above l =
      let voice = voice_in pairs f in
      then_above 26 (voice l.voice1) _ (span_above l.voice1)
      (λ v1. then_above 26 (voice l.voice2) _ (span_above l.voice2)
      (λ v2. then_above 26 (voice l.voice3) (λ v3. accepted (song_with l v1 v2 v3)) (span_above l.voice3) (λ v3. tt)))

  -- A file to whose head none of 21 to 24 applies is refused with a number above 24, or accepted.
  pub head-above : (v : Voices) → head_outcome f ≡ accepted v → Above 24 (mus_outcome f)
  unfolding song_by
  head-above v e =
      then_above 24 (container_outcome f) (λ l. song_in (voice_in pairs f) l) (go (container_outcome f) refl)
      (λ l. lower (song_in (voice_in pairs f) l) (song-above l))
    where
      go : (o : Outcome Layout) → container_outcome f ≡ o → Above 24 o
      go (accepted l) q = tt
      go (refused n p) q = text-number f v n p e q

  -- A file that is refused with a number up to 26 is refused so by its container.
  pub low-number : (n p : ℕ) → mus_outcome f ≡ refused n p → n ≤ 26 → container_outcome f ≡ refused n p
  unfolding song_by
  low-number n p e low = go (container_outcome f) e
    where
      go : (o : Outcome Layout) → and_then o (λ l. song_in (voice_in pairs f) l) ≡ refused n p → o ≡ refused n p
      go (accepted l) q = absurd (not_above (subst (Above 26) q (song-above l)))
        where
          not_above : 26 < n → ⊥
          not_above late = omega (arith, late, low)
      go (refused m k) q = let same : (m ≡ n) × (k ≡ p) = (cc, cc) in λ i. refused (same.0 i) (same.1 i)
