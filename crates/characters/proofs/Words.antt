-- A word compared byte by byte. Assumes nothing.
-- Same           the bytes compared so far are the same, so that the rest decides
-- same_more      one byte more is the same
-- other, all     a byte differs; all are the same
use Prim.Native.Nat.{ℕ, ◌+◌, ◌<◌, ◌≤◌}
use mathlib.Core.Path.{◌≡◌, sym, ◌∙◌}
use mathlib.Core.Bool.{true, false, ◌&&◌}
use mathlib.Core.List.{List}
use native.Mathlib.Numerals.{add-one}
use lib.ListN.{length, drop, get_or, drop_of_length-le}
use lib.Seq.{drop-cons, drop-drop}
use lib.Dec.{eqb}
use borrow.Author.Tests.{eq-eqb, ne_eqb}
use Rattle.characters.specs.Characters.{stands}
use Rattle.characters.specs.Laws.{byte-here}

module _ (s w : List ℕ) where
  abbrev pub Same : ℕ → Type 0
  Same n = stands w s ≡ stands (drop n w) (drop n s)

  step : (n : ℕ) → n < length w → stands (drop n w) (drop n s) ≡ eqb (get_or s n 0) (get_or w n 0) && stands (drop (n + 1) w) (drop (n + 1) s)
  unfolding stands
  step n h = rw (drop-cons w n 0 h, byte-here s n, drop-drop 1 n s, add-one n)

  module _ (n : ℕ) (same : Same n) (h : n < length w) where
    pub same_more : get_or s n 0 ≡ get_or w n 0 → Same (n + 1)
    same_more e = same ∙ step n h ∙ rw (eq-eqb (get_or s n 0) (get_or w n 0) e)

    pub other : (get_or s n 0 ≡ get_or w n 0 → ⊥) → false ≡ stands w s
    other e = sym (same ∙ step n h ∙ rw (ne_eqb (get_or s n 0) (get_or w n 0) e))

  pub all : (n : ℕ) → Same n → length w ≤ n → true ≡ stands w s
  unfolding stands
  all n same h = sym (same ∙ rw (drop_of_length-le w h))
