-- What is written reads back, for signed values in one byte.
-- byte-up, byte_down   P-S, F-S and AUT
-- sca-up, sca-down     SCA
-- tps-back, rtp-back   TPS and RTP, by one test over the sizes of either sign
use Prim.Native.Nat.{ℕ, ◌+◌, ◌*◌, ◌-◌, ◌/◌, ◌%◌, ◌≤◌}
use mathlib.Core.Path.{◌≡◌, refl, ◌∙◌, ap}
use mathlib.Core.Bool.{Bool, true, not, ◌&&◌, cond}
use native.Mathlib.Omega.{arith}
use native.Mathlib.Nat.{zero-add}
use lib.Dec.{T, leb, ltb, ltb→lt}
use lib.IntN.{ℤ, pos, negsuc}
use lib.Signed.{le_z}
use borrow.Author.Tests.{le-leb, ltb-false, not-true}
use Rattle.logic.specs.Cases.{cases}
use Rattle.refusals.specs.Numbers.Outcome.{accepted}
use Rattle.meaning.specs.declared.Meaning.{Meaning}
use Rattle.meaning.specs.declared.Meaning.TheVariants.{Sca, Tps, Rtp}
use Rattle.logic.specs.Every.{every, every_at, true_of, all_left, all_right, sameℤ, sameℤ_equal}
use Rattle.commandsigns.specs.Signs.{signed_byte, tps_value, rtp_value}
use Rattle.spelling.specs.Counts.{pair, no_bytes}
use Rattle.spelling.specs.Signs.{tps, rtp}
use Rattle.pair.specs.Pairs.{meaning_of}
use Rattle.pairlaws.specs.Statements.{Means}
use Rattle.pairlaws.proofs.ValueKinds.{ReadsBack}

pub byte-up : (n : ℕ) → n ≤ 127 → signed_byte n ≡ pos n
byte-up n h = sameℤ_equal (signed_byte n) (pos n) (every_at (λ k. sameℤ (signed_byte k) (pos k)) 128 tt n (omega arith))

pub byte_down : (n : ℕ) → n + 1 ≤ 128 → signed_byte (256 - (n + 1)) ≡ negsuc n
byte_down n h =
    sameℤ_equal (signed_byte (256 - (n + 1))) (negsuc n)
    (every_at (λ k. sameℤ (signed_byte (256 - (k + 1))) (negsuc k)) 128 tt n (omega arith))

pub sca-up : (n : ℕ) → n ≤ 7 → meaning_of 0x6E n ≡ accepted (Sca (pos n))
sca-up n h = rw (zero-add n, byte-up n (omega arith), le-leb n 7 h)

pub sca-down : (n : ℕ) → n + 1 ≤ 7 → meaning_of 0x6E (256 - (n + 1)) ≡ accepted (Sca (negsuc n))
sca-down n h = rw (zero-add (256 - (n + 1)), byte_down n (omega arith), le-leb n 6 (omega arith))

-- one first byte, a range and a value of the second
module _ (M : ℤ → Meaning) (first : ℕ) (inside : ℕ → Bool) (value : ℕ → ℤ) (is : (b : ℕ) → inside b ≡ true → meaning_of first b ≡ accepted (M (value b)))
    (low : T (ltb first 256)) where
  abbrev right : ℕ → ℤ → Bool
  right b z = inside b && sameℤ (value b) z && ltb b 256

  byte-means : (b : ℕ) (z : ℤ) → T (right b z) → Means (M z) first b
  byte-means b z t =
      let two = all_left (inside b && sameℤ (value b) z) (ltb b 256) t in
      let in-range = true_of (inside b) (all_left (inside b) (sameℤ (value b) z) two) in
      let same = sameℤ_equal (value b) z (all_right (inside b) (sameℤ (value b) z) two) in (
        is b in-range ∙ ap (λ (y : ℤ). accepted (M y)) same,
        ltb→lt first 256 low,
        ltb→lt b 256 (all_right (inside b && sameℤ (value b) z) (ltb b 256) t),
      )

  -- the byte that is written for each number, whose size is that much more, up to a greatest
  sized-back : (z : ℕ → ℤ) (byte : ℕ → ℕ) (greatest more : ℕ) → T (every (λ k. right (byte k) (z k)) (greatest + 1 - more)) → (n size : ℕ) → size ≡ n + more
      → ReadsBack (M (z n)) (cond (ltb greatest size) no_bytes (pair first (byte n)))
  sized-back z byte greatest more t n size e =
      cases (ltb greatest size) (λ q. rw q (refl, refl))
      (λ q. let h = ltb-false greatest size q in
      rw q (byte-means (byte n) (z n) (every_at (λ k. right (byte k) (z k)) (greatest + 1 - more) t n (omega arith))))

abbrev tps_in : ℕ → Bool
tps_in b = not (ltb 11 (b / 16))

tps-is : (b : ℕ) → tps_in b ≡ true → meaning_of 0xA6 b ≡ accepted (Tps (tps_value b))
tps-is b e = rw (zero-add b, not-true (ltb 11 (b / 16)) e)

pub tps-back : (z : ℤ) → ReadsBack (Tps z) (tps z)
tps-back (pos n) = sized-back Tps 0xA6 tps_in tps_value tps-is tt pos (λ k. 16 * (k % 12) + 2 * (7 - k / 12)) 95 0 tt n n (omega arith)
tps-back (negsuc n) =
    sized-back Tps 0xA6 tps_in tps_value tps-is tt negsuc (λ k. 16 * (11 - (k + 1) % 12) + 2 * ((k + 1) / 12) + 1) 95 1 tt n (n + 1) refl

abbrev rtp_in : ℕ → Bool
rtp_in b = leb (b / 8) 22 && le_z (negsuc 46) (rtp_value b) && le_z (rtp_value b) (pos 47)

rtp-is : (b : ℕ) → rtp_in b ≡ true → meaning_of 0x2E b ≡ accepted (Rtp (rtp_value b))
rtp-is b e = rw (zero-add b, e)

pub rtp-back : (z : ℤ) → ReadsBack (Rtp z) (rtp z)
rtp-back (pos n) = sized-back Rtp 0x2E rtp_in rtp_value rtp-is tt pos (λ k. 8 * (11 + k % 12) + 3 - k / 12) 47 0 tt n n (omega arith)
rtp-back (negsuc n) =
    sized-back Rtp 0x2E rtp_in rtp_value rtp-is tt negsuc (λ k. 8 * (11 - (k + 1) % 12) + 3 + (k + 1) / 12) 47 1 tt n (n + 1) refl
