-- The place of a refusal from 27 to 33 is a stored pair of one voice, as specs/Named.antt states it.
-- voice-placed       the place of a voice's refusal is one of its pairs
-- container-number   the container's refusals are 26 or less
-- named              so a greater number is a voice's, and its place one of the voice's pairs
-- once               two voices have no place in common
-- places-named       both
use Prim.Native.Nat.{ℕ, ◌+◌, ◌*◌, ◌/◌, ◌<◌, ◌≤◌}
use mathlib.Core.Path.{◌≡◌, refl, sym, ap, subst}
use mathlib.Core.List.{List}
use native.Mathlib.Omega.{arith}
use lib.Dec.{eqb, ltb, lit≤}
use lib.ListN.{length}
use borrow.Author.Tests.{eqb-true, eqb-false, ltb-true, ltb-false}
use Rattle.logic.specs.Cases.{cases}
use Rattle.fields.specs.declared.Span.{Span}
use Rattle.fields.specs.Parts.{part_of}
use Rattle.refusals.specs.Numbers.{Outcome}
use Rattle.refusals.specs.Numbers.Outcome.{accepted, refused}
use Rattle.refusals.specs.Tests.{Verdict}
use Rattle.std.specs.Prelude.{Result, Ok, Err}
use Rattle.refusals.specs.Tests.{first_of, guarded, and_then}
use Rattle.refusals.specs.Laws.{two_ways}
use Rattle.container.specs.declared.Voices.{Voices}
use Rattle.container.specs.declared.Layout.{Layout}
use Rattle.container.specs.Head.{head_of, voices_of, voice_span, head_outcome}
use Rattle.container.specs.Layout.{layout_of, container_tests, container_outcome}
use Rattle.container.specs.Laws.{VoiceFits, layout_none, layout_of_lem, voice1-fits, voice2-fits, voice3-fits}
use Rattle.container.specs.ByNumber.{first-each}
use Rattle.bodies.specs.Voice.{pairs}
use Rattle.bodies.proofs.Stored.{length_pairs}
use Rattle.refusals.specs.declared.Reason.{Reason}
use Rattle.refusals.specs.Numbers.{number_of}
use Rattle.structure.specs.Findings.{Found, At, pairs_finding, structure_finding}
use Rattle.structure.specs.Laws.{pairs-within, structure-within}
use Rattle.counts.specs.declared.Walk.{Walk}
use Rattle.counts.specs.Limits.{count_outcome}
use Rattle.mus.specs.Voices.{or_found, limited, voice_by}
use Rattle.mus.specs.Song.{voice_in, song_in, song_by, mus_outcome}
use Rattle.musparts.specs.Laws.{part_length, head-right}
use Rattle.musparts.specs.Named.{PairNamed, PlacesNamed}

-- an offset is that of a stored pair of the voice at a span
record PairAt (s : Span) (place : ℕ) : Type 0 where
  pair : ℕ
  stored : pair < s.len / 2
  stands : place ≡ s.from + 2 * pair

abbrev Placed : {A : Type 0} → Span → Outcome A → Type 0
Placed s (accepted a) = Unit
Placed s (refused number place) = PairAt s place

found-placed : {A : Type 0} (s : Span) (x : Found) (later : Outcome A) → ((r : Reason) (i : ℕ) → x ≡ At r i → i < s.len / 2)
    → Placed s later → Placed s (or_found s.from x later)
found-placed s (Ok u) later h l = l
found-placed s (Err y) later h l = record { pair = y.pair; stored = h y.reason y.pair refl; stands = refl }

limited-placed : (s : Span) (len : ℕ) (c : Result Walk Reason) → 0 < s.len / 2 → Placed s (limited s.from len c)
limited-placed s len (Ok w) h = tt
limited-placed s len (Err r) h = record { pair = 0; stored = h; stands = omega arith }

voice-placed : (f : List ℕ) (s : Span) → VoiceFits f s → Placed s (voice_in pairs f s)
unfolding voice_by
voice-placed f s fits =
    let v = pairs (part_of f s) in
    let many = length_pairs (part_of f s) in
    let bytes = part_length f s fits in
    found-placed s (pairs_finding v) _ (λ n i e. omega (arith, many, bytes, pairs-within v n i e))
    (found-placed s (structure_finding v) _ (λ n i e. omega (arith, many, bytes, structure-within v n i e))
    (limited-placed s (length (part_of f s)) (count_outcome v) (omega (arith, fits.0, fits.1))))

container-number : (f : List ℕ) (n p : ℕ) → container_outcome f ≡ refused n p → n ≤ 26
unfolding container_outcome container_tests
container-number f n p e = go (first_of (container_tests f)) refl e
  where
    go : (v : Verdict) → first_of (container_tests f) ≡ v → guarded v (accepted (layout_of f)) ≡ refused n p → n ≤ 26
    go (Ok u) q r = absurd (two_ways (sym r))
    go (Err m) q r =
        let is : number_of m ≡ n = cc in
        subst (λ (k : ℕ). k ≤ 26) is
        (first-each (λ k. k ≤ 26) (container_tests f) (lit≤ tt, (lit≤ tt, (lit≤ tt, (lit≤ tt, (lit≤ tt, (lit≤ tt, tt)))))) m q)

-- a refusal is a part's own, or comes after the part
by_part : {A B C : Type 0} (o : Outcome A) (g : A → Outcome B) (n p : ℕ) → and_then o g ≡ refused n p
    → (o ≡ refused n p → C) → ((a : A) → o ≡ accepted a → g a ≡ refused n p → C) → C
by_part (accepted a) g n p e own later = later a refl e
by_part (refused m q) g n p e own later =
    let number : m ≡ n = cc in
    let place : q ≡ p = cc in
    own (rw (number, place))

module _ (f : List ℕ) (n p : ℕ) where
  placed_at : {A : Type 0} (s : Span) (o : Outcome A) → Placed s o → o ≡ refused n p → PairAt s p
  placed_at s (accepted a) h e = absurd (two_ways (sym e))
  placed_at s (refused m q) h e = let place : q ≡ p = cc in subst (PairAt s) place h

  -- the pair of the voice with a number, which lies at a span
  names : (k : ℕ) (v : Voices) → (1 ≤ k) × (k ≤ 3) → PairAt (voice_span v k) p → PairNamed v p
  names k v within at = record { voice = k; pair = at.pair; number = within; stored = at.stored; stands = at.stands }

  voices_named : song_in (voice_in pairs f) (layout_of f) ≡ refused n p
      → VoiceFits f (layout_of f).voice1 → VoiceFits f (layout_of f).voice2 → VoiceFits f (layout_of f).voice3
      → PairNamed (voices_of (head_of f)) p
  unfolding layout_of
  voices_named e fits1 fits2 fits3 =
      let l = layout_of f in
      let v = voices_of (head_of f) in
      by_part (voice_in pairs f l.voice1) _ n p e
      (λ q. names 1 v (lit≤ tt, lit≤ tt) (placed_at l.voice1 _ (voice-placed f l.voice1 fits1) q))
      (λ v1 o1 e1. by_part (voice_in pairs f l.voice2) _ n p e1
      (λ q. names 2 v (lit≤ tt, lit≤ tt) (placed_at l.voice2 _ (voice-placed f l.voice2 fits2) q))
      (λ v2 o2 e2. by_part (voice_in pairs f l.voice3) _ n p e2
      (λ q. names 3 v (lit≤ tt, lit≤ tt) (placed_at l.voice3 _ (voice-placed f l.voice3 fits3) q))
      (λ v3 o3 e3. absurd (two_ways (sym e3)))))

  named : mus_outcome f ≡ refused n p → 26 < n
      → (head_outcome f ≡ accepted (voices_of (head_of f))) × PairNamed (voices_of (head_of f)) p
  unfolding song_by
  named e late =
      by_part (container_outcome f) (λ l. song_in (voice_in pairs f) l) n p e
      (λ q. absurd (omega (arith, container-number f n p q)))
      (λ l q r.
      let none = layout_none f l q in
      let right = subst (λ (x : Layout). song_in (voice_in pairs f) x ≡ refused n p) (sym (layout_of_lem f l q)) r in
      (head-right f none, voices_named right (voice1-fits f none) (voice2-fits f none) (voice3-fits f none)))

module _ (f : List ℕ) where
  abbrev start : ℕ → ℕ
  start k = (voice_span (voices_of (head_of f)) k).from

  abbrev bytes : ℕ → ℕ
  bytes k = (voice_span (voices_of (head_of f)) k).len

  -- a voice ends before a later one begins
  in_order : (k m : ℕ) → 1 ≤ k → m ≤ 3 → k < m → start k + bytes k ≤ start m
  in_order k m low high less =
      cases (eqb k 1)
      (λ a. cases (eqb m 2)
      (λ b. rw (eqb-true k 1 a, eqb-true m 2 b) (omega arith))
      (λ b. rw (eqb-true k 1 a, third (eqb-false m 2 b) (eqb-true k 1 a)) (omega arith)))
      (λ a. rw (second (eqb-false k 1 a), last (eqb-false k 1 a)) (omega arith))
    where
      third : (m ≡ 2 → ⊥) → k ≡ 1 → m ≡ 3
      third b a = omega (arith, a, b)

      second : (k ≡ 1 → ⊥) → k ≡ 2
      second a = omega (arith, a)

      last : (k ≡ 1 → ⊥) → m ≡ 3
      last a = omega (arith, a)

  apart : (p : ℕ) (a b : PairNamed (voices_of (head_of f)) p) → a.voice < b.voice → ⊥
  apart p a b less =
      omega (arith, a.stored, a.stands, b.stands, in_order a.voice b.voice a.number.0 b.number.1 less)

  once : (p : ℕ) (a b : PairNamed (voices_of (head_of f)) p) → (a.voice ≡ b.voice) × (a.pair ≡ b.pair)
  once p a b =
      let k = a.voice in
      let m = b.voice in
      cases (ltb k m) (λ q. absurd (apart p a b (ltb-true k m q)))
      (λ q. cases (ltb m k) (λ r. absurd (apart p b a (ltb-true m k r)))
      (λ r. let same : k ≡ m = omega (arith, ltb-false k m q, ltb-false m k r) in
      (same, omega (arith, a.stands, b.stands, ap start same))))

  pub places-named : PlacesNamed f
  places-named = record { named = named f; once = once }
