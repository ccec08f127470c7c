-- What stands at the front of a line is the same whether the line is looked at by itself or in its file,
-- where a byte that closes it and other bytes follow. `a` is the line, `c` the byte that closes it, `t` what
-- follows.
-- byte-here, byte-later          a byte by its place
-- leading_length                 the leading bytes are at most as many as the bytes
-- leading_stop, rest_stop        where c does not pass the test
-- begins_stop                    where c is not the byte that is looked for
-- Apart, stands_stop             where c is not in the word
-- stands-long                    bytes that begin with a word are not fewer than the word's
-- drop_stop                      what is dropped from the line
-- digits_stop                    where c is no digit
-- digits-below                   the number of so many digits is below the power of the base
use Rattle.std.specs.Prelude.{ℕ, suc, ◌+◌, ◌*◌, ◌^◌, ◌≤◌, ◌<◌, ◌≡◌, Bool, true, false, length, drop, get_or, eqb}
use Rattle.std.proofs.Math.Path.{refl}
use Rattle.std.proofs.Common.{ap, sym, ◌∙◌, add-mul, one-mul, mul_assoc, mul-le-mul_right, drop-drop, get_or-drop, ltb-true}
use Rattle.std.proofs.lemmas.Bool.{false≢true}
use mathlib.Core.List.{List, [], ◌∷◌, ◌++◌}
use native.Mathlib.Omega.{arith}
use Rattle.std.proofs.Math.Nat.{pow-zero, pow-succ'}
use Rattle.std.proofs.lemmas.List.{drop-append-le}
use Rattle.logic.specs.Cases.{cases}
use Rattle.logic.specs.Truth.{both_right}
use Rattle.characters.specs.Characters.{digit_value, is_digit, leading, rest, begins, stands, number_from, digits_of}

-- The first byte from a place on is the byte at that place.
pub byte-here : (f : List ℕ) (at : ℕ) → get_or (drop at f) 0 0 ≡ get_or f at 0
byte-here f at = get_or-drop at f 0 0 ∙ ap (λ (k : ℕ). get_or f k 0) (omega arith)

-- The first byte n bytes after a place is the byte at that place plus n.
pub byte-later : (f : List ℕ) (at n : ℕ) → get_or (drop n (drop at f)) 0 0 ≡ get_or f (at + n) 0
byte-later f at n = rw (drop-drop n at f) (byte-here f (at + n))

-- The leading bytes are at most as many as the bytes.
pub leading_length : (p : ℕ → Bool) (s : List ℕ) → length (leading p s) ≤ length s
unfolding leading
leading_length p [] = omega arith
leading_length p (b ∷ bs) = let later = leading_length p bs in cases (p b) (λ e. rw e (omega arith)) (λ e. rw e (omega arith))

module _ (c : ℕ) (t : List ℕ) where
  -- The leading bytes of a line are the same in its file, where the byte that closes it does not pass.
  pub leading_stop : (p : ℕ → Bool) → p c ≡ false → (a : List ℕ) → leading p (a ++ c ∷ t) ≡ leading p a
  unfolding leading
  leading_stop p e [] = rw e
  leading_stop p e (b ∷ bs) = rw (leading_stop p e bs)

  -- What is dropped from a line leaves the same in its file, with the bytes that follow the line.
  pub drop_stop : (n : ℕ) (a : List ℕ) → n ≤ length a → drop n (a ++ c ∷ t) ≡ drop n a ++ c ∷ t
  drop_stop n a h = drop-append-le n a (c ∷ t) h

  -- What follows the leading bytes of a line is the same in its file, with the bytes that follow the line.
  pub rest_stop : (p : ℕ → Bool) → p c ≡ false → (a : List ℕ) → rest p (a ++ c ∷ t) ≡ rest p a ++ c ∷ t
  rest_stop p e a = rw (leading_stop p e a) (drop_stop (length (leading p a)) a (leading_length p a))

  -- A line begins with a byte in its file as by itself, where that byte is neither 0 nor the one that closes
  -- it.
  pub begins_stop : (b : ℕ) → eqb c b ≡ false → eqb 0 b ≡ false → (a : List ℕ) → begins b (a ++ c ∷ t) ≡ begins b a
  begins_stop b e z [] = rw (e, z)
  begins_stop b e z (x ∷ xs) = refl

  -- no byte of a word is 0 or the one that closes a line
  abbrev pub Apart : List ℕ → Type 0
  Apart [] = Unit
  Apart (b ∷ bs) = (eqb c b ≡ false) × (eqb 0 b ≡ false) × Apart bs

  -- A word stands at the front of a line in its file as by itself, where no byte of it is 0 or closes the
  -- line.
  pub stands_stop : (w : List ℕ) → Apart w → (a : List ℕ) → stands w (a ++ c ∷ t) ≡ stands w a
  unfolding stands
  stands_stop [] h a = refl
  stands_stop (b ∷ bs) h [] = rw (h.0, h.1)
  stands_stop (b ∷ bs) h (x ∷ xs) = rw (stands_stop bs h.2 xs)

  -- Bytes that begin with a word are at least as many as those of the word, where none of them is 0.
  pub stands-long : (w : List ℕ) → Apart w → (s : List ℕ) → stands w s ≡ true → length w ≤ length s
  unfolding stands
  stands-long [] h s e = omega arith
  stands-long (b ∷ bs) h [] e = absurd (false≢true (rw h.1 at e))
  stands-long (b ∷ bs) h (x ∷ xs) e = omega (arith, stands-long bs h.2 xs (both_right (eqb x b) (stands bs xs) e))

  -- The digits at the front of a line are the same in its file, where the byte that closes it is no digit.
  pub digits_stop : (base : ℕ) → is_digit base c ≡ false → (a : List ℕ) → digits_of base (a ++ c ∷ t) ≡ digits_of base a
  unfolding digits_of
  digits_stop base e a = rw (leading_stop (is_digit base) e a)

-- what a number and so many digits of a base are below
number-below : (base n : ℕ) (s : List ℕ) → number_from base n (leading (is_digit base) s) < (n + 1) * base ^ length (leading (is_digit base) s)
unfolding leading number_from
number-below base n [] = rw (pow-zero base) (omega arith)
number-below base n (b ∷ bs) =
    cases (is_digit base b)
    (λ e.
    let later = leading (is_digit base) bs in
    let d = ltb-true (digit_value b) base e in
    let step : n * base + digit_value b + 1 ≤ (n + 1) * base = omega (arith, add-mul n 1 base, one-mul base) in
    let scaled = mul-le-mul_right (base ^ length later) step in
    let power : (n + 1) * base * base ^ length later ≡ (n + 1) * base ^ suc (length later) = mul_assoc (n + 1) base (base ^ length later) ∙ ap (λ (x : ℕ). (n + 1) * x) (sym (pow-succ' base (length later))) in
    rw e (omega (arith, number-below base (n * base + digit_value b) bs, scaled, power)))
    (λ e. rw (e, pow-zero base) (omega arith))

-- The number of digits of a base is below the base raised to how many digits there are.
pub digits-below : (base : ℕ) (s : List ℕ) → (digits_of base s).value < base ^ (digits_of base s).len
unfolding digits_of
digits-below base s = omega (arith, number-below base 0 s, one-mul (base ^ length (leading (is_digit base) s)))
