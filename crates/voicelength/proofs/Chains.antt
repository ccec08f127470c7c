-- The bodies that are open at a pair of an accepted voice fit what opened them.
-- Tidy, ordered-tidy           no DEF stands in a DEF
-- closer_of, any_def             what closes the innermost body, and whether a DEF is open
-- only-heds                    where no DEF is open, all are open by a HED
-- Fit, Chain                   a body fits what is open; so do all that are open
-- start_fit, chain_fit         a voice with nothing open, and the innermost body
-- chain-event, chain-call, chain-hed, chain-def   from a pair to the next
-- no-def                       a DEF is met where no DEF is open
use Prim.Native.Nat.{ℕ}
use mathlib.Core.Path.{◌≡◌, refl, sym}
use mathlib.Core.Bool.{Bool, true, false}
use mathlib.Core.List.{List, [], ◌∷◌}
use native.Mathlib.Omega.{arith}
use lib.ListN.{length}
use Rattle.logic.specs.Cases.{cases}
use Rattle.bodies.specs.Bodies as bodies
use Rattle.bodies.specs.Bodies.{Closer, by_tal, by_end, by_stop, Body, done, event, repeat, phrase, call, inner, outer}
use Rattle.bodies.specs.Order.{also, closed_in, Flat, Ordered, Shut}
use Rattle.bodies.proofs.Phrases.{differ}
use Rattle.voicelength.proofs.Weighing.{Weighed}
use Rattle.voicelength.proofs.Frames.{Opened, hed, def, heds}

unfoldable pub Tidy : Body → Type 0
Tidy (done c) = Unit
Tidy (event e r) = Tidy r
Tidy (repeat n i r) = Tidy i × Tidy r
Tidy (phrase k i r) = Flat i × Tidy i × Tidy r
Tidy (call k r) = Tidy r

ordered-tidy : (K : ℕ → Bool) (b : Body) → Ordered K b → Tidy b
unfolding Tidy Ordered
ordered-tidy K (done c) o = tt
ordered-tidy K (event e r) o = ordered-tidy K r o
ordered-tidy K (repeat n i r) o = (ordered-tidy K i o.0, ordered-tidy (closed_in K i) r o.1)
ordered-tidy K (phrase k i r) o = (o.1, ordered-tidy K i o.2, ordered-tidy (also k K) r o.3)
ordered-tidy K (call k r) o = ordered-tidy K r o.1

abbrev pub closer_of : List Opened → Closer
closer_of [] = by_stop
closer_of (hed n a ∷ fs) = by_tal
closer_of (def k a ∷ fs) = by_end

abbrev pub any_def : List Opened → Bool
any_def [] = false
any_def (hed n a ∷ fs) = any_def fs
any_def (def k a ∷ fs) = true

pub only-heds : (fs : List Opened) → any_def fs ≡ false → length fs ≡ heds fs
only-heds [] e = refl
only-heds (hed n a ∷ fs) e = omega (arith, only-heds fs e)
only-heds (def k a ∷ fs) e = absurd (differ (sym e))

pub record Fit (fs : List Opened) (b : Body) : Type 0 where
  pub shut : Shut (closer_of fs) b
  pub tidy : Tidy b
  pub flat : any_def fs ≡ true → Flat b

abbrev pub Chain : List Opened → List Body → Type 0
Chain [] bs = Fit [] (inner bs)
Chain (f ∷ fs) bs = Fit (f ∷ fs) (inner bs) × Chain fs (outer bs)

pub start_fit : (K : ℕ → Bool) (b : Body) → Ordered K b → Shut by_stop b → Fit [] b
start_fit K b o s = record { shut = s; tidy = ordered-tidy K b o; flat = λ d. absurd (differ d) }

pub chain_fit : (fs : List Opened) (bs : List Body) → Chain fs bs → Fit fs (inner bs)
chain_fit [] bs c = c
chain_fit (f ∷ fs) bs c = c.0

-- the innermost body put in the place of another
chain_with : (fs : List Opened) (b : Body) (bs : List Body) → (Fit fs b → Fit fs (inner bs))
    → Chain fs (b ∷ outer bs) → Chain fs bs
unfolding inner outer
chain_with [] b bs g c = g c
chain_with (f ∷ fs) b bs g c = (g c.0, c.1)

-- a body opened inside the innermost: its own, and what comes after it
chain_open : (f : Opened) (fs : List Opened) (b : Body) (bs : List Body)
    → (Fit fs b → Fit (f ∷ fs) (inner bs) × Fit fs (inner (outer bs)))
    → Chain fs (b ∷ outer (outer bs)) → Chain (f ∷ fs) bs
unfolding inner outer
chain_open f [] b bs g c = g c
chain_open f (h ∷ fs) b bs g c = let s = g c.0 in (s.0, (s.1, c.1))

module _ (fs : List Opened) (bs : List Body) where
  pub chain-event : (e : bodies.Event) → Chain fs (event e (inner bs) ∷ outer bs) → Chain fs bs
  unfolding Shut Tidy Flat
  chain-event e c = chain_with fs (event e (inner bs)) bs (λ f. record { shut = f.shut; tidy = f.tidy; flat = f.flat }) c

  pub chain-call : (k : ℕ) → Chain fs (call k (inner bs) ∷ outer bs) → Chain fs bs
  unfolding Shut Tidy Flat
  chain-call k c = chain_with fs (call k (inner bs)) bs (λ f. record { shut = f.shut; tidy = f.tidy; flat = f.flat }) c

  pub chain-hed : (n : ℕ) (a : Weighed) → Chain fs (repeat n (inner bs) (inner (outer bs)) ∷ outer (outer bs))
      → Chain (hed n a ∷ fs) bs
  unfolding Shut Tidy Flat
  chain-hed n a c =
      chain_open (hed n a) fs (repeat n (inner bs) (inner (outer bs))) bs
      (λ f. (
        record { shut = f.shut.0; tidy = f.tidy.0; flat = λ d. (f.flat d).0 },
        record { shut = f.shut.1; tidy = f.tidy.1; flat = λ d. (f.flat d).1 },
      ))
      c

  pub chain-def : (k : ℕ) (a : Weighed) → Chain fs (phrase k (inner bs) (inner (outer bs)) ∷ outer (outer bs))
      → Chain (def k a ∷ fs) bs
  unfolding Shut Tidy Flat
  chain-def k a c =
      chain_open (def k a) fs (phrase k (inner bs) (inner (outer bs))) bs
      (λ f. (
        record { shut = f.shut.0; tidy = f.tidy.1; flat = λ d. f.tidy.0 },
        record { shut = f.shut.1; tidy = f.tidy.2; flat = λ d. absurd (f.flat d) },
      ))
      c

  -- a DEF stands in no DEF
  pub no-def : (k : ℕ) → Chain fs (phrase k (inner bs) (inner (outer bs)) ∷ outer (outer bs)) → any_def fs ≡ false
  unfolding Flat inner
  no-def k c =
      cases (any_def fs) (λ d. absurd ((chain_fit fs (phrase k (inner bs) (inner (outer bs)) ∷ outer (outer bs)) c).flat d))
      (λ d. d)
