-- The number of digits that are read one by one, with a stop at `most`. Assumes nothing.
-- grows          a number does not fall as digits are added
-- stopped        a number that has been stopped stays stopped
-- Read, read_none, read_more, read_all   the number read so far, of no digits, of one more, and of all
use Prim.Native.Nat.{ℕ, ◌+◌, ◌*◌, ◌<◌, ◌≤◌, min}
use mathlib.Core.Path.{◌≡◌, refl, ap, subst, ◌∙◌}
use mathlib.Core.Bool.{true}
use mathlib.Core.List.{List, [], ◌∷◌}
use native.Mathlib.Omega.{arith}
use native.Mathlib.Nat.{le-mul_of_pos_right}
use lib.Dec.{leb}
use lib.ListN.{length, drop, get_or}
use borrow.Author.Tests.{leb-true, leb-false}
use Rattle.logic.specs.Cases.{cases}
use Rattle.characters.specs.Characters.{digit_value, is_digit, leading, number_from, number_of, most, digits_of}
use Rattle.characters.proofs.Counting.{one_here}

module _ (base : ℕ) where
  module _ (h : 0 < base) where
    pub grows : (n : ℕ) (s : List ℕ) → n ≤ number_from base n s
    unfolding number_from
    grows n [] = omega arith
    grows n (b ∷ bs) = omega (arith, le-mul_of_pos_right n h, grows (n * base + digit_value b) bs)

    pub stopped : (c n : ℕ) (s : List ℕ) → min (number_from base (min n c) s) c ≡ min (number_from base n s) c
    stopped c n s =
        cases (leb n c)
        (λ e. let k = leb-true n c e in let same : min n c ≡ n = omega arith in rw same)
        (λ e.
        let k = leb-false n c e in
        let same : min n c ≡ c = omega arith in
        rw same (omega (arith, grows c s, grows n s)))

-- the number of the digits read so far, with the digits still to be read, makes the whole
pub record Read (base : ℕ) (s : List ℕ) (value n : ℕ) : Type 0 where
  pub small : value ≤ most
  pub count : length (leading (is_digit base) s) ≡ n + length (leading (is_digit base) (drop n s))
  pub whole : min (number_from base value (leading (is_digit base) (drop n s))) most ≡ min (number_of base (leading (is_digit base) s)) most

-- nothing is read yet
pub read_none : (base : ℕ) (s : List ℕ) → Read base s 0 0
read_none base s = record { small = omega arith; count = omega arith; whole = refl }

module _ {base : ℕ} {s : List ℕ} {value n : ℕ} (r : Read base s value n) where
  -- the same of any digits still to be read
  abbrev Whole : List ℕ → Type 0
  Whole l = min (number_from base value l) most ≡ min (number_of base (leading (is_digit base) s)) most

  pub read_more : (next : ℕ) → 0 < base → n < length s → is_digit base (get_or s n 0) ≡ true
      → next ≡ min (value * base + digit_value (get_or s n 0)) most → Read base s next (n + 1)
  unfolding number_from
  read_more next h k e is =
      let x = value * base + digit_value (get_or s n 0) in
      let later = leading (is_digit base) (drop (n + 1) s) in
      let here = one_here (is_digit base) s n k e in
      record {
        small = omega arith;
        count = omega (arith, r.count, ap length here);
        whole = rw is (stopped base h most x later ∙ subst Whole here r.whole);
      }

  -- no digit is left
  pub read_all : (len : ℕ) → len ≡ n → leading (is_digit base) (drop n s) ≡ [] → record { len = len; value = value } ≡ digits_of base s
  unfolding number_from digits_of
  read_all len is e =
      let all = subst Whole e r.whole in
      let count : len ≡ length (leading (is_digit base) s) = omega (arith, is, r.count, ap length e) in
      let number : value ≡ min (number_of base (leading (is_digit base) s)) most = omega (arith, r.small, all) in
      rw (count, number)
