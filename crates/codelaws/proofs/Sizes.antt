-- A value that some pair has is small: what is written of it says so.
-- counted-small, phrase-small, destination-small, alone-small, joined_small, tempo-small   without a sign
-- SmallValue   the size of a value with a sign
-- byte_small, jif-small, dtn-small, tps-small, rtp-small   with one
-- tone-small   a note's octave
use Rattle.std.specs.Prelude.{Option, Some, None}
use Prim.Native.Nat.{ℕ, ◌+◌, ◌*◌, ◌-◌, ◌/◌, ◌%◌, ◌≤◌}
use mathlib.Core.Path.{◌≡◌, refl}
use mathlib.Core.Bool.{Bool, true, false, ◌&&◌, ◌||◌, cond}
use native.Mathlib.Omega.{arith}
use lib.Dec.{eqb, leb, ltb}
use lib.IntN.{ℤ, pos, negsuc}
use borrow.Author.Tests.{leb-true, ltb-false, eqb-true}
use Rattle.logic.specs.Cases.{cases}
use Rattle.logic.specs.Truth.{both_right, neither_right}
use Rattle.refusals.specs.Numbers.{Outcome}
use Rattle.refusals.specs.Numbers.Outcome.{accepted}
use Rattle.meaning.specs.declared.Note.{Note}
use Rattle.meaning.specs.declared.Tone.{Tone}
use Rattle.meaning.specs.declared.Tone.TheVariants.{Rest, Sounds}
use Rattle.meaning.specs.declared.Bytes.{Bytes}
use Rattle.meaning.specs.Pitches.{in_tables}
use Rattle.meaning.specs.Laws.{octave_low}
use Rattle.note.specs.Writing.{letter_number, accidental_bits, first_byte, tone_byte, note_spelling}
use Rattle.note.specs.Writing as note
use Rattle.spelling.specs.Counts.{pair, no_bytes, counted, phrase, destination, alone, joined, tempo}
use Rattle.spelling.specs.Signs.{of_slot, spelled_signed, jif, dtn, tps, rtp}

none_written : {y : Bytes} → no_bytes ≡ accepted y → ⊥
none_written e = let z : ◌≡◌ {A = ℕ} 0 1 = cc in omega arith

-- what is written only under a test
tested : (t : Bool) (x : Outcome Bytes) {y : Bytes} → cond t x no_bytes ≡ accepted y → t ≡ true
tested true x e = refl
tested false x e = absurd (none_written e)

untested : (t : Bool) (x : Outcome Bytes) {y : Bytes} → cond t no_bytes x ≡ accepted y → t ≡ false
untested true x e = absurd (none_written e)
untested false x e = refl

module _ (v : ℕ) {y : Bytes} where
  pub counted-small : (most base step : ℕ) → counted v most base step ≡ accepted y → v ≤ most
  counted-small most base step e = leb-true v most (tested (leb v most) (pair 1 (base + step * v)) e)

  pub phrase-small : (low high : ℕ) → phrase v low high ≡ accepted y → v ≤ 23
  phrase-small low high e =
      cases (leb v 15) (λ p. omega (arith, leb-true v 15 p))
      (λ p. let q = tested (leb 16 v && leb v 23) (pair 1 (high + 16 * (v - 16))) (rw p at e) in
      leb-true v 23 (both_right (leb 16 v) (leb v 23) q))

  pub destination-small : destination v ≡ accepted y → v ≤ 3
  destination-small e =
      cases (eqb v 0) (λ p. omega (arith, eqb-true v 0 p))
      (λ p. cases (eqb v 1) (λ q. omega (arith, eqb-true v 1 q))
      (λ q. cases (eqb v 2) (λ r. omega (arith, eqb-true v 2 r))
      (λ r. omega (arith, eqb-true v 3 (tested (eqb v 3) (pair 1 0xEF) (rw (p, q, r) at e))))))

  pub alone-small : (first most : ℕ) → alone first v most ≡ accepted y → v ≤ most
  alone-small first most e = leb-true v most (tested (leb v most) (pair first v) e)

  pub joined_small : (most base step : ℕ) → joined v most base step ≡ accepted y → v ≤ most
  joined_small most base step e = leb-true v most (tested (leb v most) (pair (base + step * (v / 256)) (v % 256)) e)

  pub tempo-small : tempo v ≡ accepted y → v ≤ 256
  tempo-small e = ltb-false 256 v (neither_right (eqb v 0) (ltb 256 v) (untested (eqb v 0 || ltb 256 v) (pair 0x06 (v % 256)) e))

abbrev pub SmallValue : ℤ → Type 0
SmallValue (pos n) = n ≤ 65535
SmallValue (negsuc n) = n + 1 ≤ 65535

-- a value that has a slot is small
slotted : (t : Bool) (n : ℕ) (f : ℕ → Outcome Bytes) {y : Bytes} → of_slot f (cond t (Some n) None) ≡ accepted y → t ≡ true
slotted true n f e = refl
slotted false n f e = absurd (none_written e)

pub byte_small : (first : ℕ) (z : ℤ) (less more : ℕ) {y : Bytes} → less ≤ 65535 → more ≤ 65535 → spelled_signed first z less more ≡ accepted y → SmallValue z
byte_small first (pos n) less more hl hm e = omega (arith, leb-true n more (slotted (leb n more) n (λ k. alone first k 255) e))
byte_small first (negsuc n) less more hl hm e = omega (arith, leb-true (n + 1) less (slotted (leb (n + 1) less) (256 - (n + 1)) (λ k. alone first k 255) e))

pub jif-small : (z : ℤ) {y : Bytes} → jif z ≡ accepted y → SmallValue z
jif-small (pos n) e = omega (arith, leb-true n 757 (slotted (leb n 757) n (λ k. joined k 1023 0x3E 64) e))
jif-small (negsuc n) e = omega (arith, leb-true (n + 1) 200 (slotted (leb (n + 1) 200) (1024 - (n + 1)) (λ k. joined k 1023 0x3E 64) e))

pub dtn-small : (z : ℤ) {y : Bytes} → dtn z ≡ accepted y → SmallValue z
dtn-small (pos n) e = omega (arith, leb-true n 2047 (tested (leb n 2047) (joined n 2047 0x0A 32) e))
dtn-small (negsuc n) e = omega (arith, leb-true (n + 1) 2048 (tested (leb (n + 1) 2048) (joined (2048 - (n + 1)) 2047 0x1A 32) e))

pub tps-small : (z : ℤ) {y : Bytes} → tps z ≡ accepted y → SmallValue z
tps-small (pos n) e = omega (arith, ltb-false 95 n (untested (ltb 95 n) (pair 0xA6 (16 * (n % 12) + 2 * (7 - n / 12))) e))
tps-small (negsuc n) e = omega (arith, ltb-false 95 (n + 1) (untested (ltb 95 (n + 1)) (pair 0xA6 (16 * (11 - (n + 1) % 12) + 2 * ((n + 1) / 12) + 1)) e))

pub rtp-small : (z : ℤ) {y : Bytes} → rtp z ≡ accepted y → SmallValue z
rtp-small (pos n) e = omega (arith, ltb-false 47 n (untested (ltb 47 n) (pair 0x2E (8 * (11 + n % 12) + 3 - n / 12)) e))
rtp-small (negsuc n) e = omega (arith, ltb-false 47 (n + 1) (untested (ltb 47 (n + 1)) (pair 0x2E (8 * (11 - (n + 1) % 12) + 3 + (n + 1) / 12)) e))

abbrev pub SmallTone : Tone → Type 0
SmallTone Rest = Unit
SmallTone (Sounds p) = p.octave ≤ 7

-- a note's second byte that is written only under a test
paired : (t : Bool) (n : ℕ) (a : Option ℕ) {y : Bytes} → note.two_bytes a (cond t (Some n) None) ≡ accepted y → t ≡ true
paired true n a e = refl
paired false n None e = absurd (none_written e)
paired false n (Some b) e = absurd (none_written e)

pub tone-small : (n : Note) {y : Bytes} → note_spelling n ≡ accepted y → SmallTone n.tone
tone-small n {y} e = go n.tone (first_byte n.duration n.shape n.tied) e
  where
    go : (t : Tone) (a : Option ℕ) → note.two_bytes a (tone_byte t) ≡ accepted y → SmallTone t
    go Rest a q = tt
    go (Sounds p) a q =
        octave_low p (paired (in_tables p) (accidental_bits p.accidental + 8 * (7 - p.octave) + letter_number p.letter) a q)
