-- A voice is refused with a number above 26. What follows for a file's head and container stands in
-- proofs/ByNumber.antt.
-- Above         a refusal's number is above another number
-- voice-above   a voice is refused with a number above 26
use Rattle.std.specs.Prelude.{ℕ, ◌+◌, ◌<◌, ◌≡◌, refl, List, [], ◌∷◌, length}
use Rattle.std.proofs.Common.{ap, subst, arith, lit<}
use Rattle.meaning.specs.declared.Meaning.{Meaning}
use Rattle.refusals.specs.declared.Reason.{Reason}
use Rattle.refusals.specs.Numbers.{Outcome, number_of}
use Rattle.refusals.specs.Numbers.Outcome.{accepted, refused}
use Rattle.refusals.specs.Tests.{Verdict}
use Rattle.std.specs.Prelude.{Ok, Err}
use Rattle.refusals.specs.declared.Test.{Test}
use Rattle.refusals.specs.Tests.{first_of}
use Rattle.container.specs.ByNumber.{EachNumber, first-each}
use Rattle.bodies.specs.Voice.{pairs}
use Rattle.bodies.specs.Playing.{events_of, walked_of}
use Rattle.structure.specs.Tests.{Nesting, start}
use Rattle.structure.specs.Findings.{Found, At, found_at, first_at, pairs_tests, nestings_tests, pairs_finding, structure_finding}
use Rattle.counts.specs.Limits.{Within, limit_tests, unless_off, count_outcome}
use Rattle.mus.specs.Voices.{or_found, limited, voice_by, voice_outcome}

abbrev pub Above : {A : Type 0} → ℕ → Outcome A → Type 0
Above k (accepted a) = Unit
Above k (refused n p) = k < n

-- a voice's numbers
abbrev Late : ℕ → Type 0
Late n = 26 < n

abbrev EachPair : List (List Test) → Type 0
EachPair [] = Unit
EachPair (ts ∷ later) = EachNumber Late ts × EachPair later

pairs_late : (v : List (Outcome Meaning)) → EachPair (pairs_tests v)
unfolding pairs_tests
pairs_late [] = tt
pairs_late (m ∷ ms) = ((lit< tt, (lit< tt, (lit< tt, tt))), pairs_late ms)

nestings_late : (v : List (Outcome Meaning)) (o : Nesting) → EachPair (nestings_tests o v)
unfolding nestings_tests
nestings_late [] o = tt
nestings_late (m ∷ ms) o = ((lit< tt, (lit< tt, tt)), nestings_late ms _)

-- the reason of what is found, and another where nothing is
abbrev reason_found : Reason → Found → Reason
reason_found r (Ok u) = r
reason_found r (Err x) = x.reason

found_late : (i : ℕ) (tss : List (List Test)) → EachPair tss → (n : Reason) (j : ℕ) → first_at i tss ≡ At n j → Late (number_of n)
unfolding first_at
found_late i [] h n j e = absurd (let z : ◌≡◌ {A = ℕ} 0 1 = cc in omega arith)
found_late i (ts ∷ later) h n j e = go (first_of ts) refl (found_late (i + 1) later h.1 n j) e
  where
    go : (v : Verdict) → first_of ts ≡ v → (first_at (i + 1) later ≡ At n j → Late (number_of n)) → found_at v i (first_at (i + 1) later) ≡ At n j → Late (number_of n)
    go (Ok u) q rest r = rest r
    go (Err m) q rest r = let is : m ≡ n = ap (reason_found m) r in subst (λ s. Late (number_of s)) is (first-each Late ts h.0 m q)

or_found-above : {A : Type 0} (offset : ℕ) (x : Found) (later : Outcome A) → ((n : Reason) (i : ℕ) → x ≡ At n i → Late (number_of n)) → Above 26 later → Above 26 (or_found offset x later)
or_found-above offset (Ok u) later h l = l
or_found-above offset (Err x) later h l = h x.reason x.pair refl

limited-above : (offset len : ℕ) (v : List (Outcome Meaning)) → Above 26 (limited offset len (count_outcome v))
limited-above offset len v = go (first_of (limit_tests v)) refl
  where
    go : (x : Verdict) → first_of (limit_tests v) ≡ x → Above 26 (limited offset len (unless_off x (Within (events_of v) (walked_of v))))
    go (Ok u) e = tt
    go (Err n) e = first-each Late (limit_tests v) (lit< tt, (lit< tt, tt)) n e

-- A voice is refused with a number above 26, or accepted.
pub voice-above : (offset : ℕ) (bs : List ℕ) → Above 26 (voice_outcome offset bs)
unfolding voice_by pairs_finding structure_finding
voice-above offset bs =
    let v = pairs bs in
    or_found-above offset (pairs_finding v) (or_found offset (structure_finding v) (limited offset (length bs) (count_outcome v))) (found_late 0 (pairs_tests v) (pairs_late v))
    (or_found-above offset (structure_finding v) (limited offset (length bs) (count_outcome v)) (found_late 0 (nestings_tests start v) (nestings_late v start))
    (limited-above offset (length bs) v))
