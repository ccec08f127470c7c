-- Laws of tests made pair by pair.
-- clear_none, none_clear   they find nothing exactly when none of them applies to any pair
-- pairs-within, structure-within   the pair that they find is one of the voice
use Rattle.std.specs.Prelude.{ℕ, suc, ◌+◌, ◌<◌, ◌≡◌, refl, List, [], ◌∷◌, length}
use Rattle.std.proofs.Common.{ap, arith}
use Rattle.meaning.specs.declared.Meaning.{Meaning}
use Rattle.refusals.specs.Numbers.{Outcome}
use Rattle.refusals.specs.declared.Test.{Test}
use Rattle.refusals.specs.Tests.{first_of}
use Rattle.refusals.specs.Laws.{passed_none, none_passed}
use Rattle.refusals.specs.Tests.{Verdict}
use Rattle.std.specs.Prelude.{Ok, Err}
use Rattle.refusals.specs.declared.Reason.{Reason}
use Rattle.kind.specs.Kinds.{kind_of}
use Rattle.structure.specs.Tests.{Nesting, nesting_after, start}
use Rattle.structure.specs.Findings.{Found, Clear, At, found_at, first_at, pairs_tests, nestings_tests, pairs_finding, structure_finding, AllNone}

clear_both : (v : Verdict) (i : ℕ) (f : Found) → found_at v i f ≡ Clear → (v ≡ Ok tt) × (f ≡ Clear)
clear_both (Ok u) i f e = (refl, e)
clear_both (Err n) i f e = absurd (let z : ◌≡◌ {A = ℕ} 0 1 = cc in omega arith)

-- Where tests made pair by pair find nothing, none of them applies to any pair.
pub clear_none : (i : ℕ) (tss : List (List Test)) → first_at i tss ≡ Clear → AllNone tss
unfolding first_at AllNone
clear_none i [] e = tt
clear_none i (ts ∷ later) e =
    let both = clear_both (first_of ts) i (first_at (i + 1) later) e in
    (passed_none ts both.0, clear_none (i + 1) later both.1)

-- Where none of the tests applies to any pair, they find nothing.
pub none_clear : (i : ℕ) (tss : List (List Test)) → AllNone tss → first_at i tss ≡ Clear
unfolding first_at AllNone
none_clear i [] h = refl
none_clear i (ts ∷ later) h = rw (none_passed ts h.0) (none_clear (i + 1) later h.1)

abbrev pair_of : Found → ℕ
pair_of (Ok u) = 0
pair_of (Err x) = x.pair

found-later : (v : Verdict) (r : Reason) (i j k : ℕ) (f : Found) → found_at v i f ≡ At r j → (f ≡ At r j → j < i + 1 + k) → j < i + suc k
found-later (Ok u) r i j k f e h = omega (arith, h e)
found-later (Err s) r i j k f e h = let q : i ≡ j = ap pair_of e in omega arith

found_within : (i : ℕ) (tss : List (List Test)) (r : Reason) (j : ℕ) → first_at i tss ≡ At r j → j < i + length tss
unfolding first_at
found_within i [] r j e = absurd (let z : ◌≡◌ {A = ℕ} 0 1 = cc in omega arith)
found_within i (ts ∷ later) r j e = found-later (first_of ts) r i j (length later) (first_at (i + 1) later) e (λ q. found_within (i + 1) later r j q)

length-pairs_tests : (v : List (Outcome Meaning)) → length (pairs_tests v) ≡ length v
unfolding pairs_tests
length-pairs_tests [] = refl
length-pairs_tests (m ∷ ms) = ap suc (length-pairs_tests ms)

length_nestings_tests : (o : Nesting) (v : List (Outcome Meaning)) → length (nestings_tests o v) ≡ length v
unfolding nestings_tests
length_nestings_tests o [] = refl
length_nestings_tests o (m ∷ ms) = ap suc (length_nestings_tests (nesting_after (kind_of m) o) ms)

-- The pair at which 27 to 29 refuse a voice is one of its pairs.
pub pairs-within : (v : List (Outcome Meaning)) (r : Reason) (i : ℕ) → pairs_finding v ≡ At r i → i < length v
unfolding pairs_finding
pairs-within v r i e = omega (arith, found_within 0 (pairs_tests v) r i e, length-pairs_tests v)

-- The pair at which 30 or 31 refuses a voice is one of its pairs.
pub structure-within : (v : List (Outcome Meaning)) (r : Reason) (i : ℕ) → structure_finding v ≡ At r i → i < length v
unfolding structure_finding
structure-within v r i e = omega (arith, found_within 0 (nestings_tests start v) r i e, length_nestings_tests start v)
