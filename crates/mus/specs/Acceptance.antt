-- A MUS file is accepted exactly when none of 21 to 26 applies to it and none of 27 to 33 to any of its
-- voices; what is then reported of it follows from the file alone.
-- Passes                           none of 27 to 33 applies to a voice
-- voice_report                      what is reported of a voice
-- passes-voice, voice-passes       a voice is accepted exactly when none applies to it
-- found_none                       where what comes after a finding is accepted, nothing was found
-- Clear                            none of 21 to 33 applies to a file and its voices
-- song_of                           what is reported of a file
-- Given, then_given                where what comes after a part is accepted, so is the part
-- clear-accepted, accepted-clear   a file is accepted exactly when none applies
use Rattle.std.specs.Prelude.{◌≡◌, refl, ℕ, List, length}
use Rattle.std.proofs.Common.{sym, ap, ◌∙◌, subst}
use Rattle.fields.specs.Parts.{part_of}
use Rattle.fields.specs.declared.Span.{Span}
use Rattle.meaning.specs.declared.Meaning.{Meaning}
use Rattle.refusals.specs.Numbers.{Outcome}
use Rattle.refusals.specs.Numbers.Outcome.{accepted, refused}
use Rattle.refusals.specs.Tests.{None, first_of, and_then}
use Rattle.refusals.specs.Laws.{passed_none, none_passed, two_ways, accepted-once}
use Rattle.refusals.specs.Tests.{Verdict}
use Rattle.std.specs.Prelude.{Ok, Err}
use Rattle.container.specs.declared.Layout.{Layout}
use Rattle.container.specs.Layout.{layout_of, container_tests, container_outcome}
use Rattle.container.specs.Laws.{none_layout, layout_none, layout_of_lem}
use Rattle.bodies.specs.Voice.{pairs}
use Rattle.bodies.specs.Playing.{events_of, walked_of}
use Rattle.structure.specs.Findings as finding
use Rattle.structure.specs.Tests.{start}
use Rattle.structure.specs.Findings.{Found, pairs_tests, nestings_tests, pairs_finding, structure_finding, AllNone}
use Rattle.structure.specs.Laws.{clear_none, none_clear}
use Rattle.counts.specs.Limits.{Within, limit_tests, unless_off}
use Rattle.mus.specs.declared.Voice.{Voice}
use Rattle.mus.specs.declared.Song.{Song}
use Rattle.mus.specs.Voices.{or_found, limited, voice_by, voice_outcome}
use Rattle.mus.specs.Song.{voice_in, song_with, song_in, song_by, mus_outcome}

pub record Passes (v : List (Outcome Meaning)) : Type 0 where
  -- None of 27 to 29 applies at any pair.
  pub pairs : AllNone (pairs_tests v)
  -- Neither 30 nor 31 applies at any pair.
  pub structure : AllNone (nestings_tests start v)
  -- Neither 32 nor 33 applies to the voice.
  pub limits : None (limit_tests v)

abbrev pub voice_report : ℕ → List ℕ → Voice
voice_report offset bs = record { offset = offset; length = length bs; events = events_of (pairs bs); walked = walked_of (pairs bs) }

-- A voice to which none of 27 to 33 applies is accepted, and what is reported of it is voice_report.
pub passes-voice : (offset : ℕ) (bs : List ℕ) → Passes (pairs bs) → voice_outcome offset bs ≡ accepted (voice_report offset bs)
unfolding voice_by pairs_finding structure_finding
passes-voice offset bs p =
    rw (none_clear 0 (pairs_tests (pairs bs)) p.pairs, none_clear 0 (nestings_tests start (pairs bs)) p.structure)
    (ap (λ (x : Verdict). limited offset (length bs)
    (unless_off x (Within (events_of (pairs bs)) (walked_of (pairs bs)))))
    (none_passed (limit_tests (pairs bs)) p.limits))

-- Where a voice is accepted after a look at its pairs, the look found nothing, and the rest accepts it.
pub found_none : {A : Type 0} (offset : ℕ) (x : Found) (o : Outcome A) (a : A) → or_found offset x o ≡ accepted a
    → (x ≡ finding.Clear) × (o ≡ accepted a)
found_none offset (Ok u) o a e = (refl, e)
found_none offset (Err y) o a e = absurd (two_ways e)

limited_none : (offset len : ℕ) (x : Verdict) (events walked : ℕ) (v : Voice)
    → limited offset len (unless_off x (Within events walked)) ≡ accepted v
    → (x ≡ Ok tt) × (record { offset = offset; length = len; events = events; walked = walked } ≡ v)
limited_none offset len (Ok u) events walked v e = (refl, cc)
limited_none offset len (Err n) events walked v e = absurd (two_ways e)

-- An accepted voice is one to which none of 27 to 33 applies, and what is reported of it is voice_report.
pub voice-passes : (offset : ℕ) (bs : List ℕ) (v : Voice) → voice_outcome offset bs ≡ accepted v
    → Passes (pairs bs) × (voice_report offset bs ≡ v)
unfolding voice_by pairs_finding structure_finding
voice-passes offset bs v e =
    let one = found_none offset (pairs_finding (pairs bs)) _ v e in
    let two = found_none offset (structure_finding (pairs bs)) _ v one.1 in
    let three = limited_none offset (length bs) (first_of (limit_tests (pairs bs))) (events_of (pairs bs))
    (walked_of (pairs bs)) v two.1 in (
      record {
        pairs = clear_none 0 (pairs_tests (pairs bs)) one.0;
        structure = clear_none 0 (nestings_tests start (pairs bs)) two.0;
        limits = passed_none (limit_tests (pairs bs)) three.0;
      },
      three.1,
    )

pub record Clear (f : List ℕ) : Type 0 where
  -- None of 21 to 26 applies to the file.
  pub container : None (container_tests f)
  -- None of 27 to 33 applies to voice 1.
  pub voice1 : Passes (pairs (part_of f (layout_of f).voice1))
  -- None of 27 to 33 applies to voice 2.
  pub voice2 : Passes (pairs (part_of f (layout_of f).voice2))
  -- None of 27 to 33 applies to voice 3.
  pub voice3 : Passes (pairs (part_of f (layout_of f).voice3))

abbrev voice_at : List ℕ → Span → Voice
voice_at f s = voice_report s.from (part_of f s)

unfoldable pub song_of : List ℕ → Song
song_of f = song_with (layout_of f) (voice_at f (layout_of f).voice1) (voice_at f (layout_of f).voice2)
    (voice_at f (layout_of f).voice3)

-- A file to which none of 21 to 26 applies, nor any of 27 to 33 to one of its voices, is accepted, and what
-- is reported of it is song_of.
pub clear-accepted : (f : List ℕ) → Clear f → mus_outcome f ≡ accepted (song_of f)
unfolding song_by song_of
clear-accepted f c =
    let l = layout_of f in
    rw (
      none_layout f c.container,
      passes-voice l.voice1.from (part_of f l.voice1) c.voice1,
      passes-voice l.voice2.from (part_of f l.voice2) c.voice2,
      passes-voice l.voice3.from (part_of f l.voice3) c.voice3,
    )

-- A part is accepted with a value, and what comes after that value is accepted.
pub record Given {A B : Type 0} (o : Outcome A) (g : A → Outcome B) (b : B) : Type 0 where
  pub value : A
  pub was : o ≡ accepted value
  pub gives : g value ≡ accepted b

-- Where what comes after a part is accepted, the part is accepted with a value, and what comes after that
-- value is what is accepted.
pub then_given : {A B : Type 0} (o : Outcome A) (g : A → Outcome B) (b : B) → and_then o g ≡ accepted b → Given o g b
then_given (accepted x) g b e = record { value = x; was = refl; gives = e }
then_given (refused n p) g b e = absurd (two_ways e)

-- An accepted file is one to which none of them applies, and what is reported of it is song_of.
pub accepted-clear : (f : List ℕ) (s : Song) → mus_outcome f ≡ accepted s → Clear f × (song_of f ≡ s)
unfolding song_by song_of
accepted-clear f s e =
    let right = then_given (container_outcome f) (λ l. song_in (voice_in pairs f) l) s e in
    let l = right.value in
    let lies : layout_of f ≡ l = layout_of_lem f l right.was in
    let one = then_given (voice_in pairs f l.voice1)
    (λ v1. and_then (voice_in pairs f l.voice2)
    (λ v2. and_then (voice_in pairs f l.voice3) (λ v3. accepted (song_with l v1 v2 v3)))) s right.gives in
    let two = then_given (voice_in pairs f l.voice2)
    (λ v2. and_then (voice_in pairs f l.voice3) (λ v3. accepted (song_with l one.value v2 v3))) s one.gives in
    let three = then_given (voice_in pairs f l.voice3)
    (λ v3. accepted (song_with l one.value two.value v3)) s two.gives in
    let first = voice-passes l.voice1.from (part_of f l.voice1) one.value one.was in
    let second = voice-passes l.voice2.from (part_of f l.voice2) two.value two.was in
    let third = voice-passes l.voice3.from (part_of f l.voice3) three.value three.was in
    let song : song_with l one.value two.value three.value ≡ s = accepted-once three.gives in (
      record {
        container = layout_none f l right.was;
        voice1 = subst (λ (x : Layout). Passes (pairs (part_of f x.voice1))) (sym lies) first.0;
        voice2 = subst (λ (x : Layout). Passes (pairs (part_of f x.voice2))) (sym lies) second.0;
        voice3 = subst (λ (x : Layout). Passes (pairs (part_of f x.voice3))) (sym lies) third.0;
      },
      subst (λ (x : Layout). song_with x (voice_at f x.voice1) (voice_at f x.voice2) (voice_at f x.voice3) ≡ s)
          (sym lies) (together l first.1 second.1 third.1 ∙ song),
    )
  where
    together : (l : Layout) {a b c : Voice} → voice_at f l.voice1 ≡ a → voice_at f l.voice2 ≡ b → voice_at f l.voice3 ≡ c
        → song_with l (voice_at f l.voice1) (voice_at f l.voice2) (voice_at f l.voice3) ≡ song_with l a b c
    together l p q r = λ i. song_with l (p i) (q i) (r i)
