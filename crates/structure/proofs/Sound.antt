-- A voice that none of 27 to 31 refuses is one body, its DEFs and CALs are in order, and each opener is
-- closed by its own closer.
-- sound   so, from the tests of each pair
use Prim.Native.Nat.{ℕ, ◌+◌}
use mathlib.Core.Path.{◌≡◌, refl, sym, ◌∙◌, subst}
use mathlib.Core.Bool.{Bool, true, false}
use mathlib.Core.List.{List, [], ◌∷◌}
use borrow.Author.Tests.{not-false}
use Rattle.logic.specs.Truth.{neither}
use Rattle.meaning.specs.declared.Meaning.{Meaning}
use Rattle.refusals.specs.Numbers.{Outcome}
use Rattle.refusals.specs.Tests.{None}
use Rattle.kind.specs.declared.Kind.{Kind}
use Rattle.kind.specs.declared.Kind.TheVariants.{Event, Hed, Tal, Def, End, Cal, Hlt, Bad}
use Rattle.kind.specs.Kinds.{kind_of}
use Rattle.bodies.specs.Bodies as bodies
use Rattle.bodies.specs.Bodies.{Closer, by_tal, by_end, by_stop, Body, done, event, repeat, phrase, call, inner, outer, with_pair, event_at, body_of}
use Rattle.bodies.specs.Order.{also, closed_in, Flat, Ordered, Shut, Sound}
use Rattle.bodies.proofs.Phrases.{differ, flat-closes}
use Rattle.structure.specs.Tests.{pair_tests, Opener, by_hed, by_def, Nesting, any_def, any, nesting_tests, openers_after, nesting_after, start}
use Rattle.structure.specs.Findings.{is_last, pairs_tests, nestings_tests, AllNone}

-- what closes the body that was opened last
abbrev closer_of : List Opener → Closer
closer_of [] = by_stop
closer_of (by_hed ∷ os) = by_tal
closer_of (by_def k ∷ os) = by_end

pub record Fits (K : ℕ → Bool) (os : List Opener) (b : Body) : Type 0 where
  pub flat : any_def os ≡ true → Flat b
  pub ordered : Ordered K b
  pub shut : Shut (closer_of os) b

-- what is closed after the body that was opened last
abbrev left : Opener → (ℕ → Bool) → ℕ → Bool
left by_hed K = K
left (by_def k) K = also k K

-- the bodies that are open fit what opened them
unfoldable Chain : (ℕ → Bool) → List Opener → List Body → Type 0
Chain K [] bs = Fits K [] (inner bs) × (outer bs ≡ [])
Chain K (o ∷ os) bs = Fits K (o ∷ os) (inner bs) × Chain (left o (closed_in K (inner bs))) os (outer bs)

module _ (K : ℕ → Bool) (bs : List Body) where
  chain_fits : (os : List Opener) → Chain K os bs → Fits K os (inner bs)
  unfolding Chain
  chain_fits [] c = c.0
  chain_fits (o ∷ os) c = c.0

  -- a pair put before the body that was opened last, closing nothing
  chain-before : (b : Body) → closed_in K b ≡ closed_in K (inner bs) → (os : List Opener) → (Fits K os (inner bs) → Fits K os b) → Chain K os bs → Chain K os (b ∷ outer bs)
  unfolding Chain inner outer
  chain-before b e [] f c = (f c.0, c.1)
  chain-before b e (o ∷ os) f c = (f c.0, subst (λ (L : ℕ → Bool). Chain (left o L) os (outer bs)) (sym e) c.1)

  event-chain : (e : bodies.Event) (os : List Opener) → Chain K os bs → Chain K os (event e (inner bs) ∷ outer bs)
  unfolding closed_in Flat Ordered Shut
  event-chain e os c = chain-before (event e (inner bs)) refl os (λ f. record { flat = f.flat; ordered = f.ordered; shut = f.shut }) c

  call-chain : (k : ℕ) → K k ≡ true → (os : List Opener) → Chain K os bs → Chain K os (call k (inner bs) ∷ outer bs)
  unfolding closed_in Flat Ordered Shut
  call-chain k h os c = chain-before (call k (inner bs)) refl os (λ f. record { flat = f.flat; ordered = (h, f.ordered); shut = f.shut }) c

  hed-fits : (n : ℕ) (os : List Opener) → Fits K (by_hed ∷ os) (inner bs) → Fits (closed_in K (inner bs)) os (inner (outer bs)) → Fits K os (repeat n (inner bs) (inner (outer bs)))
  unfolding Flat Ordered Shut
  hed-fits n os f g = record { flat = λ h. (f.flat h, g.flat h); ordered = (f.ordered, g.ordered); shut = (f.shut, g.shut) }

  hed-chain : (n : ℕ) (os : List Opener) → Chain K (by_hed ∷ os) bs → Chain K os (repeat n (inner bs) (inner (outer bs)) ∷ outer (outer bs))
  unfolding Chain inner outer closed_in
  hed-chain n [] c = (hed-fits n [] c.0 c.1.0, c.1.1)
  hed-chain n (o ∷ os) c = (hed-fits n (o ∷ os) c.0 c.1.0, c.1.1)

  def-fits : (k : ℕ) (os : List Opener) → K k ≡ false → any_def os ≡ false → Fits K (by_def k ∷ os) (inner bs) → Fits (also k K) os (inner (outer bs))
      → Fits K os (phrase k (inner bs) (inner (outer bs)))
  unfolding Flat Ordered Shut
  def-fits k os h a f g =
      record { flat = λ e. absurd (differ (sym a ∙ e)); ordered = (h, f.flat refl, f.ordered, g.ordered); shut = (f.shut, g.shut) }

  def-chain : (k : ℕ) (os : List Opener) → K k ≡ false → any_def os ≡ false → Chain K (by_def k ∷ os) bs → Chain K os (phrase k (inner bs) (inner (outer bs)) ∷ outer (outer bs))
  unfolding Chain inner outer closed_in
  def-chain k os h a c = go os a c.0 (subst (λ (L : ℕ → Bool). Chain (also k L) os (outer bs)) (flat-closes K (inner bs) (c.0.flat refl)) c.1)
    where
      go : (os : List Opener) → any_def os ≡ false → Fits K (by_def k ∷ os) (inner bs) → Chain (also k K) os (outer bs)
          → Chain K os (phrase k (inner bs) (inner (outer bs)) ∷ outer (outer bs))
      go [] a f c = (def-fits k [] h a f c.0, c.1)
      go (o ∷ os) a f c = (def-fits k (o ∷ os) h a f c.0, c.1)

  tal-chain : (os : List Opener) → Chain K os bs → Chain K (by_hed ∷ os) (done by_tal ∷ bs)
  unfolding Chain inner outer closed_in Flat Ordered Shut
  tal-chain os c = (record { flat = λ h. tt; ordered = tt; shut = refl }, c)

  end-chain : (k : ℕ) (os : List Opener) → Chain (also k K) os bs → Chain K (by_def k ∷ os) (done by_end ∷ bs)
  unfolding Chain inner outer closed_in Flat Ordered Shut
  end-chain k os c = (record { flat = λ h. tt; ordered = tt; shut = refl }, c)

-- a pair that 30 does not refuse: from what is open after it to what is open at it
step-chain : (e : bodies.Event) (z : Kind) (os : List Opener) (K : ℕ → Bool) (bs : List Body) → None (nesting_tests z (record { openers = os; closed = K }))
    → Chain (nesting_after z (record { openers = os; closed = K })).closed (openers_after z os) bs → Chain K os (with_pair e z bs)
unfolding with_pair
step-chain e Event os K bs t c = event-chain K bs e os c
step-chain e (Hed n) os K bs t c = hed-chain K bs n os c
step-chain e Tal [] K bs t c = absurd (differ (sym t.0))
step-chain e Tal (by_hed ∷ os) K bs t c = tal-chain K bs os c
step-chain e Tal (by_def k ∷ os) K bs t c = absurd (differ (sym t.0))
step-chain e (Def k) os K bs t c = let both = neither (any_def os) (K k) t.0 in def-chain K bs k os both.1 both.0 c
step-chain e End [] K bs t c = absurd (differ (sym t.0))
step-chain e End (by_hed ∷ os) K bs t c = absurd (differ (sym t.0))
step-chain e End (by_def k ∷ os) K bs t c = end-chain K bs k os c
step-chain e (Cal k) os K bs t c = call-chain K bs k (not-false (K k) t.0) os c
step-chain e Hlt os K bs t c = event-chain K bs e os c
step-chain e (Bad n) os K bs t c = event-chain K bs e os c

-- nothing is open after the last pair, which is HLT
last-shut : (z : Kind) (o : Nesting) → None (pair_tests z true) → None (nesting_tests z o) → any (openers_after z o.openers) ≡ false
last-shut Event o p n = absurd (differ (sym p.1.1.0))
last-shut (Hed k) o p n = absurd (differ (sym p.1.1.0))
last-shut Tal o p n = absurd (differ (sym p.1.1.0))
last-shut (Def k) o p n = absurd (differ (sym p.1.1.0))
last-shut End o p n = absurd (differ (sym p.1.1.0))
last-shut (Cal k) o p n = absurd (differ (sym p.1.1.0))
last-shut Hlt o p n = n.0
last-shut (Bad m) o p n = absurd (differ (sym p.1.1.0))

chain : (v : List (Outcome Meaning)) (i : ℕ) (o : Nesting) → AllNone (pairs_tests v) → AllNone (nestings_tests o v) → (is_last v ≡ true → any o.openers ≡ false)
    → Chain o.closed o.openers (bodies.bodies i v)
unfolding pairs_tests nestings_tests AllNone bodies.bodies
chain [] i o p n l = ends o.openers (l refl)
  where
    ends : (os : List Opener) → any os ≡ false → Chain o.closed os []
    ends [] e = unfold Chain inner outer Flat Ordered Shut in (record { flat = λ h. tt; ordered = tt; shut = refl }, refl)
    ends (x ∷ os) e = absurd (differ (sym e))
chain (m ∷ ms) i o p n l =
    step-chain (event_at i m) (kind_of m) o.openers o.closed (bodies.bodies (i + 1) ms) n.0
    (chain ms (i + 1) (nesting_after (kind_of m) o) p.1 n.1
    (λ q. last-shut (kind_of m) o (subst (λ (b : Bool). None (pair_tests (kind_of m) b)) q p.0) n.0))

pub sound : (v : List (Outcome Meaning)) → AllNone (pairs_tests v) → AllNone (nestings_tests start v) → Sound v
unfolding Chain body_of
sound v p n =
    let c = chain v 0 start p n (λ q. refl) in
    record { whole = c.1; ordered = c.0.ordered; shut = c.0.shut }
