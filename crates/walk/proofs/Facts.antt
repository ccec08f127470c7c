-- What acceptance has shown of a voice, pair by pair, as a walk meets it.
-- IsDef   pair h is DEF k
-- Facts   HED plays its body at least once; CAL has its DEF before it; CAL k stands for the body after DEF k
-- facts   so of each voice that none of 27 to 33 refuses
use Prim.Native.Nat.{ℕ, zero, suc, ◌+◌, ◌/◌, ◌<◌, ◌≤◌}
use mathlib.Core.Path.{◌≡◌, refl, subst}
use mathlib.Core.Bool.{Bool, true, false}
use mathlib.Core.List.{List, [], ◌∷◌}
use native.Mathlib.Numerals.{add-one}
use native.Mathlib.Omega.{arith}
use lib.Dec.{eqb}
use lib.ListN.{length, drop}
use borrow.Author.Tests.{not-false, eqb-true, eqb-false}
use Rattle.logic.specs.Cases.{cases}
use Rattle.refusals.specs.Tests.{None}
use Rattle.kind.specs.declared.Kind.{Kind}
use Rattle.kind.specs.declared.Kind.TheVariants.{Event, Hed, Tal, Def, End, Cal, Hlt, Bad}
use Rattle.kind.specs.Kinds.{kind_of}
use Rattle.bodies.specs.Bodies as bodies
use Rattle.bodies.specs.Bodies.{Closer, by_tal, by_end, Body, done, event, repeat, phrase, call, inner, outer, with_pair, event_at, body_of}
use Rattle.bodies.specs.Voice.{pairs, pair_at}
use Rattle.bodies.specs.Playing.{playing, walking, nesting, phrases_of}
use Rattle.bodies.specs.Order.{also, closed_in, Ordered, Shut, Sound}
use Rattle.bodies.specs.Places.{open_at, body_at}
use Rattle.bodies.proofs.Meant.{Meant, voice-meant}
use Rattle.bodies.proofs.Stored.{pairs_cons, open_cons}
use Rattle.structure.specs.Tests.{Opener, by_hed, by_def, Nesting, nesting_tests, openers_after, closed_by, nesting_after, start}
use Rattle.structure.specs.Findings.{nestings_tests, AllNone}
use Rattle.mus.specs.Acceptance.{Passes}
use Rattle.mus.proofs.Accepted.{accepted-sound}
use Rattle.walk.proofs.Contexts.{Stands, Start, flat-closed}

module _ (bs : List ℕ) where
  abbrev pub IsDef : ℕ → ℕ → Type 0
  IsDef h k = kind_of (pair_at bs h) ≡ Def k

  -- a DEF with the number k stands before pair i
  abbrev pub Before : ℕ → ℕ → Type 0
  Before i k = (h : ℕ) × (h < i) × IsDef h k

  before_more : (i k : ℕ) → Before i k → Before (i + 1) k
  before_more i k b = (b.0, omega (arith, b.1), b.2)

  -- the numbers of the DEFs that are open
  abbrev Opened : ℕ → List Opener → Type 0
  Opened i [] = Unit
  Opened i (by_hed ∷ os) = Opened i os
  Opened i (by_def k ∷ os) = Before i k × Opened i os

  opened-more : (i : ℕ) (os : List Opener) → Opened i os → Opened (i + 1) os
  opened-more i [] p = tt
  opened-more i (by_hed ∷ os) p = opened-more i os p
  opened-more i (by_def k ∷ os) p = (before_more i k p.0, opened-more i os p.1)

  record Seen (i : ℕ) (o : Nesting) : Type 0 where
    shut : (k : ℕ) → o.closed k ≡ true → Before i k
    still : Opened i o.openers

  opened-rest : (i : ℕ) (os : List Opener) → Opened i os → Opened (i + 1) (openers_after End os)
  opened-rest i [] p = tt
  opened-rest i (by_hed ∷ os) p = opened-more i os p
  opened-rest i (by_def k ∷ os) p = opened-more i os p.1

  closed_by_lem : (i : ℕ) (os : List Opener) (K : ℕ → Bool) → Opened i os → ((k : ℕ) → K k ≡ true → Before i k) → (k : ℕ) → closed_by os K k ≡ true → Before (i + 1) k
  closed_by_lem i [] K p s k e = before_more i k (s k e)
  closed_by_lem i (by_hed ∷ os) K p s k e = before_more i k (s k e)
  closed_by_lem i (by_def j ∷ os) K p s k e =
      cases (eqb j k) (λ q. subst (λ (x : ℕ). Before (i + 1) x) (eqb-true j k q) (before_more i j p.0)) (λ q. before_more i k (s k (rw q at e)))

  seen_step : (i : ℕ) (z : Kind) (o : Nesting) → kind_of (pair_at bs i) ≡ z → Seen i o → Seen (i + 1) (nesting_after z o)
  seen_step i Event o q s = record { shut = λ k e. before_more i k (s.shut k e); still = opened-more i o.openers s.still }
  seen_step i (Hed n) o q s = record { shut = λ k e. before_more i k (s.shut k e); still = opened-more i o.openers s.still }
  seen_step i Tal o q s = record { shut = λ k e. before_more i k (s.shut k e); still = opened-rest i o.openers s.still }
  seen_step i (Def k) o q s = record { shut = λ j e. before_more i j (s.shut j e); still = ((i, omega arith, q), opened-more i o.openers s.still) }
  seen_step i End o q s = record { shut = closed_by_lem i o.openers o.closed s.still s.shut; still = opened-rest i o.openers s.still }
  seen_step i (Cal k) o q s = record { shut = λ j e. before_more i j (s.shut j e); still = opened-more i o.openers s.still }
  seen_step i Hlt o q s = record { shut = λ k e. before_more i k (s.shut k e); still = opened-more i o.openers s.still }
  seen_step i (Bad n) o q s = record { shut = λ k e. before_more i k (s.shut k e); still = opened-more i o.openers s.still }

  -- the tests of the pairs from i on, by what is open and closed there
  record Tested (i : ℕ) : Type 0 where
    nesting : Nesting
    none : AllNone (nestings_tests nesting (drop i (pairs bs)))
    seen : Seen i nesting

  tested_none : (i : ℕ) → i < length bs / 2 → (t : Tested i)
      → None (nesting_tests (kind_of (pair_at bs i)) t.nesting) × AllNone (nestings_tests (nesting_after (kind_of (pair_at bs i)) t.nesting) (drop (i + 1) (pairs bs)))
  unfolding nestings_tests AllNone
  tested_none i h t = subst (λ l. AllNone (nestings_tests t.nesting l)) (pairs_cons bs i h) t.none

  tested : AllNone (nestings_tests start (pairs bs)) → (i : ℕ) → i ≤ length bs / 2 → Tested i
  tested n zero h = record { nesting = start; none = n; seen = record { shut = λ k e. absurd (let z : ◌≡◌ {A = ℕ} 0 1 = cc in omega arith); still = tt } }
  tested n (suc i) h =
      let t = tested n i (omega arith) in
      let later = (tested_none i (omega arith) t).1 in
      subst Tested (add-one i)
      record { nesting = nesting_after (kind_of (pair_at bs i)) t.nesting; none = later; seen = seen_step i (kind_of (pair_at bs i)) t.nesting refl t.seen }

  pub record Facts : Type 0 where
    pub hed : (i n : ℕ) → i < length bs / 2 → kind_of (pair_at bs i) ≡ Hed n → 0 < n
    pub cal : (i k : ℕ) → i < length bs / 2 → kind_of (pair_at bs i) ≡ Cal k → Before i k
    pub def : (i k : ℕ) → i < length bs / 2 → kind_of (pair_at bs i) ≡ Def k → Start bs k (i + 1)

  -- each DEF in a body stands for what CALs of its number give
  unfoldable Starts : Body → Type 0
  Starts (done c) = Unit
  Starts (event e r) = Starts r
  Starts (repeat n i r) = Starts i × Starts r
  Starts (phrase k i r) = Stands bs k i × Starts i × Starts r
  Starts (call k r) = Starts r

  starts : (K : ℕ → Bool) (c : Closer) (b : Body) → Ordered K b → Shut c b → Meant playing (phrases_of playing (pairs bs)) b → Meant walking (phrases_of walking (pairs bs)) b
      → Meant nesting (phrases_of nesting (pairs bs)) b → Starts b
  unfolding Starts Ordered Shut Meant
  starts K c (done d) o s p w n = tt
  starts K c (event e r) o s p w n = starts K c r o s p w n
  starts K c (repeat t i r) o s p w n =
      (starts K by_tal i o.0 s.0 p.0 w.0 n.0, starts (closed_in K i) c r o.1 s.1 p.1 w.1 n.1)
  starts K c (phrase k i r) o s p w n = (
    record { is-closed = flat-closed by_end i o.1 s.0; events = p.0; steps = w.0; depth = n.0 },
    starts K by_end i o.2 s.0 p.1 w.1 n.1,
    starts (also k K) c r o.3 s.1 p.2 w.2 n.2,
  )
  starts K c (call k r) o s p w n = starts K c r o.1 s p w n

  unfoldable AllStarts : List Body → Type 0
  AllStarts [] = Unit
  AllStarts (b ∷ l) = Starts b × AllStarts l

  rejoined : (l : List Body) → Starts (inner l) → AllStarts (outer l) → AllStarts l
  unfolding inner outer AllStarts
  rejoined [] s a = tt
  rejoined (b ∷ l) s a = (s, a)

  joined-starts : (e : bodies.Event) (z : Kind) (l : List Body) → AllStarts (with_pair e z l) → AllStarts l
  unfolding with_pair AllStarts Starts
  joined-starts e Event l a = rejoined l a.0 a.1
  joined-starts e (Hed n) l a = rejoined l a.0.0 (rejoined (outer l) a.0.1 a.1)
  joined-starts e Tal l a = a.1
  joined-starts e (Def k) l a = rejoined l a.0.1 (rejoined (outer l) a.0.2 a.1)
  joined-starts e End l a = a.1
  joined-starts e (Cal k) l a = rejoined l a.0 a.1
  joined-starts e Hlt l a = rejoined l a.0 a.1
  joined-starts e (Bad n) l a = rejoined l a.0 a.1

  starts_at : AllStarts (open_at (pairs bs) 0) → (i : ℕ) → i ≤ length bs / 2 → AllStarts (open_at (pairs bs) i)
  starts_at a zero h = a
  starts_at a (suc i) h =
      subst (λ (j : ℕ). AllStarts (open_at (pairs bs) j)) (add-one i)
      (joined-starts (event_at i (pair_at bs i)) (kind_of (pair_at bs i)) (open_at (pairs bs) (i + 1))
      (subst AllStarts (open_cons bs i (omega arith)) (starts_at a i (omega arith))))

  -- what stands after a DEF
  def-stands : (i k : ℕ) → i < length bs / 2 → kind_of (pair_at bs i) ≡ Def k → AllStarts (open_at (pairs bs) i) → Start bs k (i + 1)
  unfolding with_pair AllStarts Starts body_at
  def-stands i k h e a =
      (subst (λ (z : Kind). AllStarts (with_pair (event_at i (pair_at bs i)) z (open_at (pairs bs) (i + 1)))) e (subst AllStarts (open_cons bs i h) a)).0.0

  all_starts : Sound (pairs bs) → AllStarts (open_at (pairs bs) 0)
  unfolding open_at body_of AllStarts
  all_starts s =
      rejoined (bodies.bodies 0 (pairs bs))
      (starts _ _ (body_of (pairs bs)) s.ordered s.shut (voice-meant playing (pairs bs) s) (voice-meant walking (pairs bs) s) (voice-meant nesting (pairs bs) s))
      (rw s.whole tt)

  some-passes : (n : ℕ) → eqb n 0 ≡ false → 0 < n
  some-passes n e = omega (arith, eqb-false n 0 e)

  pub facts : Passes (pairs bs) → Facts
  facts p =
      record {
        hed = λ i n h e. some-passes n (subst (λ (z : Kind). None (nesting_tests z (tested p.structure i (omega arith)).nesting)) e (tested_none i h (tested p.structure i (omega arith))).0).1.0;
        cal = λ i k h e.
            let t = tested p.structure i (omega arith) in
            t.seen.shut k (not-false (t.nesting.closed k) (subst (λ (z : Kind). None (nesting_tests z t.nesting)) e (tested_none i h t).0).0);
        def = λ i k h e. def-stands i k h e (starts_at (all_starts (accepted-sound (pairs bs) p)) i (omega arith));
      }
