-- Cells by phrase number, as code keeps them in a list.
-- set_at            one cell set: it holds the new value, the others what they held
-- blank, blank_at   cells that hold 0
use Prim.Native.Nat.{ℕ, zero, suc, ◌<◌}
use mathlib.Core.Path.{◌≡◌, refl, sym, subst}
use mathlib.Core.List.{List, [], ◌∷◌}
use native.Mathlib.Decide.{ℕ_discrete}
use mathlib.Core.Bool.{cond}
use lib.Dec.{eqb}
use lib.ListN.{length, get_or, set}
use lib.Seq.{get_or-set_same, get_or-set_other}
use borrow.Author.Tests.{eq-eqb, ne_eqb}

pub set_at : {A : Type 0} (d : A) (l : List A) (k j : ℕ) (x : A) → k < length l
    → get_or (set l k x) j d ≡ cond (eqb k j) x (get_or l j d)
set_at d l k j x h =
    elim (ℕ_discrete k j) [
      | yes p ↦ rw (eq-eqb k j p) (subst (λ (y : ℕ). get_or (set l k x) y d ≡ x) p (get_or-set_same l k x d h))
      | no q ↦ rw (ne_eqb k j q) (get_or-set_other l k j x d (λ e. q (sym e)))
    ]

abbrev pub blank : ℕ → List ℕ
blank zero = []
blank (suc n) = 0 ∷ blank n

pub blank_at : (n k : ℕ) → get_or (blank n) k 0 ≡ 0
blank_at zero k = refl
blank_at (suc n) zero = refl
blank_at (suc n) (suc k) = blank_at n k
