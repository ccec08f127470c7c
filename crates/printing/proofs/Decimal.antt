-- The decimal digits of a number.
-- decimal-enough              in any so many that are enough, they are the same
-- length_in_lem, length-decimal   there are no more than asked for; of a number of 64 bits at most 20
-- length-split                with j of them taken off, there are j fewer
-- length_one, length-between  how many there are below ten; between two powers of ten
-- length_log                  from the power of ten that is the greatest below
-- decimal_std                 std writes the same digits
use Rattle.std.specs.Prelude.{ℕ, zero, suc, ◌≡◌, ◌+◌, ◌/◌, ◌%◌, ◌^◌, ◌*◌, ◌-◌, ◌<◌, ◌≤◌, cond, ltb}
use Rattle.std.proofs.Common.{List, [], ◌∷◌, ◌++◌, length, length-append, refl, ap, arith}
use Rattle.std.proofs.Math.Nat.{pow-succ', one-le-pow, div-one}
use Rattle.std.proofs.Math.Nat.{div-div-eq-div-mul, div-lt_iff_lt-mul}
use Rattle.std.proofs.lemmas.Bool.{lt-ltb, le-ltb}
use Rattle.std.specs.Fmt as fmt
use Rattle.std.proofs.lemmas.Fmt.{AppendsLastDigit, decimal_from_appends, length-decimal-le}
use Rattle.logic.specs.Cases.{cases}
use Rattle.printing.specs.Digits.{decimal_in, decimal}

pub decimal-enough : (j k n : ℕ) → n < 10 ^ suc j → n < 10 ^ suc k
    → decimal_in (suc j) n ≡ decimal_in (suc k) n
unfolding decimal_in
decimal-enough zero zero n f g = refl
decimal-enough zero (suc k) n f g = rw (lt-ltb n 10 (omega arith))
decimal-enough (suc j) zero n f g = rw (lt-ltb n 10 (omega arith))
decimal-enough (suc j) (suc k) n f g =
    let up = pow-succ' 10 (suc j) in
    let over = pow-succ' 10 (suc k) in
    ap (λ (l : List ℕ). cond (ltb n 10) ((48 + n) ∷ []) (l ++ ((48 + n % 10) ∷ [])))
    (decimal-enough j k (n / 10) (omega arith) (omega arith))

pub length_in_lem : (k n : ℕ) → length (decimal_in k n) ≤ k
unfolding decimal_in
length_in_lem zero n = omega arith
length_in_lem (suc k) n =
    let rest = length_in_lem k (n / 10) in
    cases (ltb n 10) (λ e. rw e (omega arith)) (λ e. rw e (simp length-append (omega (arith, rest))))

pub length-decimal : (n : ℕ) → length (decimal n) ≤ 20
unfolding decimal
length-decimal n = length_in_lem 20 n

pub length-split : (j k n : ℕ) → 10 ^ j ≤ n
    → length (decimal_in (j + k) n) ≡ j + length (decimal_in k (n / 10 ^ j))
unfolding decimal_in
length-split zero k n h = let all : 0 + k ≡ k = omega arith in rw (all, div-one n) (omega arith)
length-split (suc j) k n h =
    let up = pow-succ' 10 j in
    let one = one-le-pow j 10 (omega arith) in
    let next : suc j + k ≡ suc (j + k) = omega arith in
    let off : n / 10 ^ suc j ≡ n / 10 / 10 ^ j = rw (up, ← div-div-eq-div-mul n 10 (10 ^ j)) in
    rw (next, le-ltb n 10 (omega arith), off)
    (simp length-append (omega (arith, length-split j k (n / 10) (omega arith))))

pub length_one : (k n : ℕ) → n < 10 → 1 ≡ length (decimal_in (suc k) n)
unfolding decimal_in
length_one k n small = rw (lt-ltb n 10 small)

pub length-between : (j k n : ℕ) → 10 ^ j ≤ n → n < 10 ^ suc j → suc j ≡ length (decimal_in (j + suc k) n)
length-between j k n least most =
    let up = pow-succ' 10 j in
    let one = one-le-pow j 10 (omega arith) in
    let digit : n / 10 ^ j < 10 =
    (div-lt_iff_lt-mul {k = 10 ^ j} {x = n} {y = 10} (omega arith)).1 (omega arith) in
    rw (length-split j (suc k) n least) (omega (arith, length_one k (n / 10 ^ j) digit))

pub length_log : (j n : ℕ) → j < 20 → 10 ^ j ≤ n → n < 10 * 10 ^ j → j + 1 ≡ length (decimal n)
unfolding decimal
length_log j n low least most =
    let up = pow-succ' 10 j in
    let most' : n < 10 ^ suc j = omega arith in
    let all : 20 ≡ j + suc (19 - j) = omega arith in
    let next : j + 1 ≡ suc j = omega arith in
    rw (all, next) (length-between j (19 - j) n least most')

appends : AppendsLastDigit decimal_in
unfolding decimal_in
appends = record { one = λ k n h. rw (lt-ltb n 10 h); more = λ k n h. rw (le-ltb n 10 h) }

-- std writes the same digits.
pub decimal_std : (n : ℕ) → n < 2 ^ 64 → decimal n ≡ fmt.decimal n
unfolding decimal
decimal_std n h = decimal_from_appends decimal_in appends 20 n h (length-decimal-le 20 n (omega arith) (omega arith) h)
