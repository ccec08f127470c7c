-- Laws of a duration.
-- clock_stop, fraction_stop, time_stop         it is the same in a line as in its file, where 0D follows the
--                 line
-- clock-within, fraction-within, time-within   it lies within the bytes
-- clock-small, fraction-small, time-most       how great its value is
use Rattle.std.specs.Prelude.{Option, Some, None, ℕ, zero, suc, ◌+◌, ◌*◌, ◌^◌, ◌<◌, ◌≤◌, ◌≡◌, refl, true, ◌&&◌, ◌||◌, List, [], ◌∷◌, ◌++◌, length, drop, leb, eqb}
use Rattle.std.proofs.Common.{subst, arith, length-drop, leb-true, eqb-true}
use Rattle.logic.specs.Cases.{cases}
use Rattle.logic.specs.Truth.{both}
use Rattle.characters.specs.declared.Digits.{Digits}
use Rattle.characters.specs.Characters.{begins, stands, digits_of}
use Rattle.characters.specs.Laws.{begins_stop, stands_stop, Apart, stands-long, drop_stop, digits_stop, digits-below}
use Rattle.saparguments.specs.declared.Argument.{Argument}
use Rattle.saparguments.specs.Arguments.{good}
use Rattle.saparguments.specs.Laws.{Stops, Within, AtMost, good-once, none-good, good_if, begins-long, digits-within}
use Rattle.saptimes.specs.Times.{seconds_in, clock_at, thousandths, fraction_at, loop_word, looped_at, with_fraction, with_clock, time_at}

-- Minutes and seconds stop where their line does.
pub clock_stop : Stops clock_at
clock_stop t a =
    let m = digits_of 10 a in
    let digits = eqb m.len 1 || eqb m.len 2 in
    let colon : begins 0x3A (drop m.len (a ++ 0x0D ∷ t)) ≡ begins 0x3A (drop m.len a) = rw (drop_stop 0x0D t m.len a (digits-within 10 a)) (begins_stop 0x0D t 0x3A refl refl (drop m.len a)) in
    rw (digits_stop 0x0D t 10 refl a, colon)
    (cases (begins 0x3A (drop m.len a))
    (λ e.
    let inside : m.len + 1 ≤ length a = omega (arith, begins-long 0x3A (drop m.len a) (omega arith) e, length-drop m.len a) in
    rw (drop_stop 0x0D t (m.len + 1) a inside, digits_stop 0x0D t 10 refl (drop (m.len + 1) a)))
    (λ e. rw e (cases digits (λ d. rw d) (λ d. rw d))))

-- Minutes and seconds lie within the bytes.
pub clock-within : Within clock_at
clock-within s n v e =
    let m = digits_of 10 s in
    let d = seconds_in m s in
    let g = good_if _ (m.len + 1 + d.len) (m.value * 60 + d.value) n v e in
    let seconds = both ((eqb m.len 1 || eqb m.len 2) && begins 0x3A (drop m.len s)) (eqb d.len 2) g.0 in
    omega (arith, g.1, eqb-true d.len 2 seconds.1, digits-within 10 (drop (m.len + 1) s), length-drop (m.len + 1) s)

-- two digits at most are a number below 100
few : (d : Digits) → d.value < 10 ^ d.len → eqb d.len 1 || eqb d.len 2 ≡ true → d.value < 100
few d h e = cases (eqb d.len 1) (λ p. omega (arith, subst (λ (n : ℕ). d.value < 10 ^ n) (eqb-true d.len 1 p) h)) (λ p. omega (arith, subst (λ (n : ℕ). d.value < 10 ^ n) (eqb-true d.len 2 (rw p at e)) h))

-- Minutes and seconds are at most 99 of each.
pub clock-small : (s : List ℕ) (n v : ℕ) → clock_at s ≡ good n v → v ≤ 99 * 60 + 99
clock-small s n v e =
    let m = digits_of 10 s in
    let d = seconds_in m s in
    let g = good_if _ (m.len + 1 + d.len) (m.value * 60 + d.value) n v e in
    let seconds = both ((eqb m.len 1 || eqb m.len 2) && begins 0x3A (drop m.len s)) (eqb d.len 2) g.0 in
    let minutes = both (eqb m.len 1 || eqb m.len 2) (begins 0x3A (drop m.len s)) seconds.0 in
    let two = subst (λ (n : ℕ). d.value < 10 ^ n) (eqb-true d.len 2 seconds.1) (digits-below 10 (drop (m.len + 1) s)) in
    omega (arith, g.2, few m (digits-below 10 s) minutes.0, two)

-- A fraction stops where its line does.
pub fraction_stop : Stops fraction_at
fraction_stop t [] = refl
fraction_stop t (b ∷ bs) = rw (digits_stop 0x0D t 10 refl bs)

-- A fraction lies within the bytes.
pub fraction-within : Within fraction_at
fraction-within s n v e =
    let d = digits_of 10 (drop 1 s) in
    cases (begins 0x2E s)
    (λ p.
    let g = good_if (leb 1 d.len && leb d.len 3) (d.len + 1) (d.value * thousandths d.len) n v (rw p at e) in
    omega (arith, g.1, leb-true 1 d.len (both (leb 1 d.len) (leb d.len 3) g.0).0, digits-within 10 (drop 1 s), length-drop 1 s))
    (λ p. omega (arith, (good-once 0 0 n v (rw p at e)).0))

-- A fraction is below a second.
pub fraction-small : (s : List ℕ) (n v : ℕ) → fraction_at s ≡ good n v → v < 1000
fraction-small s n v e =
    let d = digits_of 10 (drop 1 s) in
    cases (begins 0x2E s)
    (λ p.
    let g = good_if (leb 1 d.len && leb d.len 3) (d.len + 1) (d.value * thousandths d.len) n v (rw p at e) in
    let digits = both (leb 1 d.len) (leb d.len 3) g.0 in
    omega (arith, g.2, scaled d.len d.value (digits-below 10 (drop 1 s)) (leb-true 1 d.len digits.0) (leb-true d.len 3 digits.1)))
    (λ p. omega (arith, (good-once 0 0 n v (rw p at e)).1))
  where
    scaled : (n w : ℕ) → w < 10 ^ n → 1 ≤ n → n ≤ 3 → w * thousandths n < 1000
    scaled zero w h low high = absurd (omega arith)
    scaled (suc zero) w h low high = omega arith
    scaled (suc (suc zero)) w h low high = omega arith
    scaled (suc (suc (suc zero))) w h low high = omega arith
    scaled (suc (suc (suc (suc n)))) w h low high = absurd (omega arith)

-- no byte of the word is 0 or 0D
loop_apart : Apart 0x0D [] loop_word
loop_apart = (refl, refl, (refl, refl, (refl, refl, (refl, refl, (refl, refl, tt)))))

-- A duration stops where its line does.
pub time_stop : Stops time_at
time_stop t a = rw (clock_stop t a) (go (clock_at a) refl)
  where
    fraction : (len seconds : ℕ) (s : List ℕ) (f : Option Argument) → fraction_at s ≡ f → with_fraction len seconds (s ++ 0x0D ∷ t) f ≡ with_fraction len seconds s f
    fraction len seconds s None e = refl
    fraction len seconds s (Some f) e = rw (drop_stop 0x0D t f.len s (fraction-within s f.len f.value e), stands_stop 0x0D t loop_word loop_apart (drop f.len s))

    go : (c : Option Argument) → clock_at a ≡ c → with_clock (a ++ 0x0D ∷ t) c ≡ with_clock a c
    go None e = refl
    go (Some c) e =
        rw (drop_stop 0x0D t c.len a (clock-within a c.len c.value e), fraction_stop t (drop c.len a))
        (fraction c.len c.value (drop c.len a) (fraction_at (drop c.len a)) refl)

-- A duration lies within the bytes.
pub time-within : Within time_at
time-within s n v e = go (clock_at s) refl e
  where
    looped : (len ms : ℕ) (r : List ℕ) → looped_at len ms r ≡ good n v → n ≤ len + length r
    looped len ms r q =
        cases (stands loop_word r)
        (λ p. let is = good-once (len + 5) (2 * ms + 1) n v (rw p at q) in omega (arith, is.0, stands-long 0x0D [] loop_word loop_apart r p))
        (λ p. let is = good-once len (2 * ms) n v (rw p at q) in omega (arith, is.0))

    fraction : (len seconds : ℕ) (r : List ℕ) (f : Option Argument) → fraction_at r ≡ f → with_fraction len seconds r f ≡ good n v → n ≤ len + length r
    fraction len seconds r None p q = none-good n v q
    fraction len seconds r (Some f) p q = omega (arith, fraction-within r f.len f.value p, looped (len + f.len) (seconds * 1000 + f.value) (drop f.len r) q, length-drop f.len r)

    go : (c : Option Argument) → clock_at s ≡ c → with_clock s c ≡ good n v → n ≤ length s
    go None p q = none-good n v q
    go (Some c) p q = omega (arith, clock-within s c.len c.value p, fraction c.len c.value (drop c.len s) (fraction_at (drop c.len s)) refl q, length-drop c.len s)

-- A duration is at most 99 minutes, 99 seconds and 999 milliseconds.
pub time-most : AtMost 12079999 time_at
time-most s n v e = go (clock_at s) refl e
  where
    looped : (len ms : ℕ) (r : List ℕ) → ms ≤ 6039999 → looped_at len ms r ≡ good n v → v ≤ 12079999
    looped len ms r h q =
        cases (stands loop_word r)
        (λ p. let is = good-once (len + 5) (2 * ms + 1) n v (rw p at q) in omega (arith, is.1))
        (λ p. let is = good-once len (2 * ms) n v (rw p at q) in omega (arith, is.1))

    fraction : (len seconds : ℕ) (r : List ℕ) → seconds ≤ 6039 → (f : Option Argument) → fraction_at r ≡ f → with_fraction len seconds r f ≡ good n v → v ≤ 12079999
    fraction len seconds r h None p q = none-good n v q
    fraction len seconds r h (Some f) p q = looped (len + f.len) (seconds * 1000 + f.value) (drop f.len r) (omega (arith, fraction-small r f.len f.value p)) q

    go : (c : Option Argument) → clock_at s ≡ c → with_clock s c ≡ good n v → v ≤ 12079999
    go None p q = none-good n v q
    go (Some c) p q = fraction c.len c.value (drop c.len s) (omega (arith, clock-small s c.len c.value p)) (fraction_at (drop c.len s)) refl q
