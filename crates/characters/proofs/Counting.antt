-- The bytes that pass a test, from a place on. Assumes nothing.
-- none_past      past the end nothing is counted
-- none_here      nor at a byte that does not pass
-- one_here       a byte that passes is the first that is counted
-- taken          they are what `take_while` gives
use Prim.Native.Nat.{ℕ, ◌+◌, ◌<◌, ◌≤◌}
use mathlib.Core.Path.{◌≡◌, refl, ◌∙◌}
use mathlib.Core.Bool.{Bool, true, false}
use mathlib.Core.List.{List, [], ◌∷◌}
use native.Mathlib.Numerals.{add-one}
use lib.ListN.{length, drop, take, get_or, drop_of_length-le}
use Rattle.std.specs.List.{prefix_len}
use Rattle.std.proofs.lemmas.List.Sums.{take_while-cons}
use lib.Seq.{drop-cons}
use Rattle.characters.specs.Characters.{leading}

module _ (p : ℕ → Bool) (f : List ℕ) where
  pub none_past : (n : ℕ) → length f ≤ n → leading p (drop n f) ≡ []
  unfolding leading
  none_past n h = rw (drop_of_length-le f h)

  pub none_here : (n : ℕ) → n < length f → p (get_or f n 0) ≡ false → leading p (drop n f) ≡ []
  unfolding leading
  none_here n h e = rw (drop-cons f n 0 h, e)

  pub one_here : (n : ℕ) → n < length f → p (get_or f n 0) ≡ true → leading p (drop n f) ≡ get_or f n 0 ∷ leading p (drop (n + 1) f)
  unfolding leading
  one_here n h e = rw (drop-cons f n 0 h, e, add-one n)

pub taken : (p : ℕ → Bool) (s : List ℕ) → take (prefix_len p s) s ≡ leading p s
unfolding leading
taken p [] = refl
taken p (b ∷ bs) = take_while-cons p b bs ∙ rw (taken p bs)
