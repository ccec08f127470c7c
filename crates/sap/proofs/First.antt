-- The five bytes of the first line, one by one. Assumes nothing.
-- starts_first   what `starts_with` says of them is what the definition says
use Prim.Native.Nat.{ℕ}
use mathlib.Core.Path.{◌≡◌, refl, sym}
use mathlib.Core.Bool.{◌&&◌}
use mathlib.Core.List.{List, [], ◌∷◌}
use lib.ListN.{take, get_or}
use lib.Dec.{eqb}
use lib.Pointwise.{pointwise}
use borrow.Author.Tests.{eqb-true, eqb-false, eq-eqb, ne_eqb}
use Rattle.std.specs.List.{starts_with}
use Rattle.logic.specs.Cases.{cases}
use Rattle.sap.specs.FirstLine.{first_line}

turned : (a b : ℕ) → eqb a b ≡ eqb b a
turned a b = cases (eqb b a) (λ e. rw e (eq-eqb a b (sym (eqb-true b a e)))) (λ e. rw e (ne_eqb a b (λ p. eqb-false b a e (sym p))))

lf : (s : List ℕ) → pointwise eqb (0x0A ∷ []) (take 1 s) ≡ eqb (get_or s 0 0) 0x0A
lf [] = refl
lf (b ∷ s) = rw (turned 0x0A b) (cases (eqb b 0x0A) (λ e. rw e) (λ e. rw e))

cr_lf : (s : List ℕ) → pointwise eqb (0x0D ∷ 0x0A ∷ []) (take 2 s) ≡ eqb (get_or s 0 0) 0x0D && eqb (get_or s 1 0) 0x0A
cr_lf [] = refl
cr_lf (b ∷ s) = rw (turned 0x0D b) (cases (eqb b 0x0D) (λ e. rw e (lf s)) (λ e. rw e))

from_p : (s : List ℕ) → pointwise eqb (0x50 ∷ 0x0D ∷ 0x0A ∷ []) (take 3 s) ≡ eqb (get_or s 0 0) 0x50 && eqb (get_or s 1 0) 0x0D && eqb (get_or s 2 0) 0x0A
from_p [] = refl
from_p (b ∷ s) = rw (turned 0x50 b) (cases (eqb b 0x50) (λ e. rw e (cr_lf s)) (λ e. rw e))

from_a : (s : List ℕ) → pointwise eqb (0x41 ∷ 0x50 ∷ 0x0D ∷ 0x0A ∷ []) (take 4 s) ≡ eqb (get_or s 0 0) 0x41 && eqb (get_or s 1 0) 0x50 && eqb (get_or s 2 0) 0x0D && eqb (get_or s 3 0) 0x0A
from_a [] = refl
from_a (b ∷ s) = rw (turned 0x41 b) (cases (eqb b 0x41) (λ e. rw e (from_p s)) (λ e. rw e))

pub starts_first : (s : List ℕ) → starts_with eqb s (0x53 ∷ 0x41 ∷ 0x50 ∷ 0x0D ∷ 0x0A ∷ []) ≡ first_line s
unfolding first_line
starts_first [] = refl
starts_first (b ∷ s) = rw (turned 0x53 b) (cases (eqb b 0x53) (λ e. rw e (from_a s)) (λ e. rw e))
