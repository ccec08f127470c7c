-- The refusals of a MUS file have a number above 0 and a small place.
-- mus_low, asked_low, list_low   so of acceptance, of a voice by its number, and of a listing
use Prim.Native.Nat.{ℕ, ◌+◌, ◌*◌, ◌≤◌, ◌<◌}
use mathlib.Core.Path.{◌≡◌, refl}
use mathlib.Core.List.{List}
use native.Mathlib.Omega.{arith}
use lib.ListN.{length, drop, length-take, length-drop}
use Rattle.fields.specs.Parts.{part_of}
use Rattle.fields.specs.declared.Span.{Span}
use Rattle.refusals.specs.Numbers.{Outcome}
use Rattle.refusals.specs.Numbers.Outcome.{accepted, refused}
use Rattle.refusals.specs.Tests.{Verdict}
use Rattle.std.specs.Prelude.{Ok, Err}
use Rattle.refusals.specs.Tests.{first_of, guarded, and_then}
use Rattle.meaning.specs.declared.Meaning.{Meaning}
use Rattle.container.specs.declared.Layout.{Layout}
use Rattle.container.specs.Layout.{layout_of, container_tests, container_outcome}
use Rattle.bodies.specs.Voice.{pairs}
use Rattle.bodies.specs.Playing.{events_of, walked_of}
use Rattle.bodies.proofs.Stored.{length_pairs}
use Rattle.refusals.specs.declared.Reason.{Reason}
use Rattle.refusals.specs.Numbers.{number_of, number-above}
use Rattle.structure.specs.Findings.{Found, At, pairs_tests, nestings_tests, pairs_finding, structure_finding}
use Rattle.structure.specs.Tests.{start}
use Rattle.structure.specs.Laws.{pairs-within, structure-within}
use Rattle.counts.specs.Limits.{Within, limit_tests, unless_off, count_outcome}
use Rattle.mus.specs.declared.Voice.{Voice}
use Rattle.mus.specs.Voices.{or_found, limited, voice_by}
use Rattle.mus.specs.Song.{voice_in, song_with, song_in, song_by, mus_outcome}
use Rattle.mus.specs.Asked.{number_tests, song_voice, asked_by, voice_asked}
use Rattle.mus.specs.Bounds.{InFile}
use Rattle.mus.proofs.Outcomes.{in_file_lem}
use Rattle.events.specs.Listing.{caller_tests, played_in, filled_by, listing_by, listing}
use Rattle.answers.specs.Apart.{LowPlace, tests_low}

-- an outcome that comes after another
then_low : {A B : Type 0} (o : Outcome A) (g : A → Outcome B) → LowPlace o → ((a : A) → o ≡ accepted a → LowPlace (g a)) → LowPlace (and_then o g)
then_low (accepted a) g l h = h a refl
then_low (refused n p) g l h = l

found-low : {A : Type 0} (offset : ℕ) (x : Found) (later : Outcome A) → ((r : Reason) (i : ℕ) → x ≡ At r i → offset + 2 * i ≤ 65536) → LowPlace later → LowPlace (or_found offset x later)
found-low offset (Ok u) later h l = l
found-low offset (Err y) later h l = (number-above y.reason, h y.reason y.pair refl)

limited-low : (offset len : ℕ) (v : List (Outcome Meaning)) → offset ≤ 65536 → LowPlace (limited offset len (count_outcome v))
limited-low offset len v h = go (first_of (limit_tests v)) refl
  where
    go : (x : Verdict) → first_of (limit_tests v) ≡ x → LowPlace (limited offset len (unless_off x (Within (events_of v) (walked_of v))))
    go (Ok u) e = tt
    go (Err r) e = (number-above r, h)

-- a pair of a voice lies in the file
voice-low : (f : List ℕ) (s : Span) → length f ≤ 65536 → s.from ≤ 65536 → LowPlace (voice_in pairs f s)
unfolding voice_by pairs_finding structure_finding
voice-low f s short low =
    let v = pairs (part_of f s) in
    found-low s.from (pairs_finding v) (or_found s.from (structure_finding v) (limited s.from (length (part_of f s)) (count_outcome v))) (λ r i e. inside i (pairs-within v r i e))
    (found-low s.from (structure_finding v) (limited s.from (length (part_of f s)) (count_outcome v)) (λ r i e. inside i (structure-within v r i e))
    (limited-low s.from (length (part_of f s)) v low))
  where
    inside : (i : ℕ) → i < length (pairs (part_of f s)) → s.from + 2 * i ≤ 65536
    inside i h = omega (arith, length_pairs (part_of f s), length-take s.len (drop s.from f), length-drop s.from f)

pub mus_low : (f : List ℕ) → LowPlace (mus_outcome f)
unfolding song_by container_outcome
mus_low f =
    then_low (container_outcome f) (λ l. song_in (voice_in pairs f) l)
    (tests_low (container_tests f) (accepted (layout_of f)) tt) (λ l e. song-low l (in_file_lem f l e))
  where
    song-low : (l : Layout) → InFile f l → LowPlace (song_in (voice_in pairs f) l)
    song-low l i =
        let voice = voice_in pairs f in
        then_low (voice l.voice1) _ (voice-low f l.voice1 i.short i.voice1)
        (λ v1 e1. then_low (voice l.voice2) _ (voice-low f l.voice2 i.short i.voice2)
        (λ v2 e2. then_low (voice l.voice3) (λ v3. accepted (song_with l v1 v2 v3))
        (voice-low f l.voice3 i.short i.voice3) (λ v3 e3. tt)))

pub asked_low : (f : List ℕ) (voice : ℕ) → LowPlace (voice_asked f voice)
unfolding asked_by
asked_low f voice =
    tests_low (number_tests voice) (and_then (mus_outcome f) (λ s. accepted (song_voice s voice))) (then_low (mus_outcome f) (λ s. accepted (song_voice s voice)) (mus_low f) (λ s e. tt))

pub list_low : (f : List ℕ) (voice first : ℕ) (os js : List ℕ) → LowPlace (listing f voice first os js).answer
unfolding listing_by
list_low f voice first os js =
    go (guarded (first_of (caller_tests voice (length os) (length js))) (voice_asked f voice)) (tests_low (caller_tests voice (length os) (length js)) (voice_asked f voice) (asked_low f voice))
  where
    go : (o : Outcome Voice) → LowPlace o → LowPlace (filled_by (played_in f) first os js o).answer
    go (accepted v) l = tt
    go (refused n p) l = l
