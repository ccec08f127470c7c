-- What is written reads back, for each kind of value: one law a kind, whatever the command.
-- counted_back, phrase-back   a command of the first byte 01
-- single-back                 a value in the second byte alone
-- joined_back                 a value that begins in the first byte
-- signed_back                 a value with a sign
use Prim.Native.Nat.{ℕ, ◌+◌, ◌*◌, ◌-◌, ◌/◌, ◌%◌, ◌≤◌}
use mathlib.Core.Path.{◌≡◌, refl}
use mathlib.Core.Bool.{Bool, true, false, ◌&&◌, cond}
use native.Mathlib.Omega.{arith}
use lib.Dec.{T, leb, ltb, ltb→lt}
use borrow.Author.Tests.{leb-true}
use lib.IntN.{ℤ, pos, negsuc}
use Rattle.logic.specs.Cases.{cases}
use Rattle.logic.specs.Truth.{both_left, both_right}
use Rattle.refusals.specs.Numbers.{Outcome}
use Rattle.refusals.specs.Numbers.Outcome.{accepted}
use Rattle.meaning.specs.declared.Meaning.{Meaning}
use Rattle.meaning.specs.declared.Bytes.{Bytes}
use Rattle.logic.specs.Every.{every, every_at}
use Rattle.commandtable.specs.Codes as Codes
use Rattle.commandtable.specs.Codes.{Command, second_means}
use Rattle.spelling.specs.Counts.{pair, no_bytes, counted, phrase, alone, joined}
use Rattle.spelling.specs.Signs.{spelled_signed}
use Rattle.pair.specs.Pairs.{meaning_of}
use Rattle.pairlaws.specs.Statements.{Means}
use Rattle.pairlaws.proofs.ValueKinds.{ReadsBack, picked-back, coded_is, coded-means, joined-means}

picked-back_else : (m : Meaning) (t : Bool) (a b : ℕ) (x : Outcome Bytes) → (t ≡ true → Means m a b) → ReadsBack m x
    → ReadsBack m (cond t (pair a b) x)
picked-back_else m true a b x f g = f refl
picked-back_else m false a b x f g = g

pub counted_back : (c : Command) (M : ℕ → Meaning) → ((v : ℕ) → Codes.command_meaning c v ≡ accepted (M v))
    → (v most base step : ℕ) → T (every (λ k. coded_is c (base + step * k) k) (most + 1)) → ReadsBack (M v) (counted v most base step)
counted_back c M is v most base step t =
    picked-back (M v) (leb v most) 1 (base + step * v)
    (λ e. let low = leb-true v most e in
    coded-means c M is (base + step * v) v (every_at (λ k. coded_is c (base + step * k) k) (most + 1) t v (omega arith)))

pub phrase-back : (c : Command) (M : ℕ → Meaning) → ((v : ℕ) → Codes.command_meaning c v ≡ accepted (M v))
    → (v low high : ℕ) → T (every (λ k. coded_is c (low + 16 * k) k) 16) → T (every (λ k. coded_is c (high + 16 * k) (16 + k)) 8)
    → ReadsBack (M v) (phrase v low high)
phrase-back c M is v low high t u =
    picked-back_else (M v) (leb v 15) 1 (low + 16 * v) (cond (leb 16 v && leb v 23) (pair 1 (high + 16 * (v - 16))) no_bytes)
    (λ e. let h = leb-true v 15 e in coded-means c M is (low + 16 * v) v (every_at (λ k. coded_is c (low + 16 * k) k) 16 t v (omega arith)))
    (picked-back (M v) (leb 16 v && leb v 23) 1 (high + 16 * (v - 16)) upper)
  where
    upper : leb 16 v && leb v 23 ≡ true → Means (M v) 1 (high + 16 * (v - 16))
    upper e =
        let g = leb-true 16 v (both_left (leb 16 v) (leb v 23) e) in
        let h = leb-true v 23 (both_right (leb 16 v) (leb v 23) e) in
        let s : 16 + (v - 16) ≡ v = omega arith in
        coded-means c M is (high + 16 * (v - 16)) v
        (rw (s) at (every_at (λ k. coded_is c (high + 16 * k) (16 + k)) 8 u (v - 16) (omega arith)))

pub single-back : (M : ℕ → Meaning) (first v most : ℕ) → ((n : ℕ) → n ≤ most → meaning_of first n ≡ accepted (M n))
    → T (ltb first 256) → T (ltb most 256) → ReadsBack (M v) (alone first v most)
single-back M first v most is f m =
    picked-back (M v) (leb v most) first v
    (λ e. let low = leb-true v most e in let top = ltb→lt most 256 m in (is v low, ltb→lt first 256 f, omega arith))

pub joined_back : (M : ℕ → Meaning) (v most base step : ℕ) → T (ltb (base + step * (most / 256)) 256)
    → ((n : ℕ) → n ≤ most → meaning_of (base + step * (n / 256)) (n % 256) ≡ accepted (M n)) → ReadsBack (M v) (joined v most base step)
joined_back M v most base step top is =
    picked-back (M v) (leb v most) (base + step * (v / 256)) (v % 256)
    (λ e. joined-means (M v) v most base step (leb-true v most e) top (is v (leb-true v most e)))

pub signed_back : (M : ℤ → Meaning) (first below above : ℕ)
    → ((n : ℕ) → n ≤ above → meaning_of first n ≡ accepted (M (pos n)))
    → ((n : ℕ) → n + 1 ≤ below → meaning_of first (256 - (n + 1)) ≡ accepted (M (negsuc n)))
    → T (ltb first 256) → T (ltb above 256) → (z : ℤ) → ReadsBack (M z) (spelled_signed first z below above)
signed_back M first below above up down f a (pos n) =
    cases (leb n above)
    (λ e. let low = leb-true n above e in
    let top = ltb→lt above 256 a in
    rw e (picked-back (M (pos n)) (leb n 255) first n (λ q. (up n low, ltb→lt first 256 f, omega arith))))
    (λ e. rw e (refl, refl))
signed_back M first below above up down f a (negsuc n) =
    cases (leb (n + 1) below)
    (λ e. let low = leb-true (n + 1) below e in
    rw e (picked-back (M (negsuc n)) (leb (256 - (n + 1)) 255) first (256 - (n + 1)) (λ q. (down n low, ltb→lt first 256 f, omega arith))))
    (λ e. rw e (refl, refl))
