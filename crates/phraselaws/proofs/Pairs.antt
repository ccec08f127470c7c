-- Request (ii), of pairs: every pair but 01 83 and 01 8B means what it meant, and its meaning is written as
-- it was. One test, computed over all 65,536 pairs, shows both.
-- means_as_before     the meaning, or 27 or 28, is that of the earlier table
-- written_as_before   what such a pair means is written as the earlier writer wrote it
-- sixteen-before      before: both pairs 27, and both meanings 43
-- sixteen_now         now: DEF 16 and CAL 16, each written as its pair
use Rattle.std.specs.Prelude.{ℕ, ◌+◌, ◌-◌, ◌<◌, ◌≡◌, refl, Bool, false, ◌&&◌, ◌||◌, T, eqb}
use Rattle.std.proofs.Common.{sym, ap, ◌∙◌, subst, arith, eqb→eq}
use Rattle.std.proofs.Math.Decide.{dec_lt}
use Rattle.logic.specs.Every.{every, every_at, all_left, all_right}
use Rattle.meaning.specs.declared.Meaning.{Meaning}
use Rattle.meaning.specs.declared.Meaning.TheVariants.{Def, Cal}
use Rattle.meaning.specs.declared.Bytes.{Bytes}
use Rattle.refusals.specs.Numbers.{Outcome}
use Rattle.refusals.specs.Numbers.Outcome.{accepted, refused}
use Rattle.refusals.specs.Laws.{two_ways, accepted-once}
use Rattle.spelling.specs.Counts.{pair, no_bytes}
use Rattle.pair.specs.Pairs.{meaning_of, spelling_of}
use Rattle.pairlaws.specs.Statements.{Means}
use Rattle.pairlaws.proofs.Read.{same_bytes, bytes_same}
use Rattle.pairlaws.proofs.Laws.{reading_and_writing}
use Rattle.phraselaws.specs.Before.{meaning_before, spelling_before, sixteen}

-- three results of writing that are one pair
abbrev one_spelling : Outcome Bytes → Outcome Bytes → Outcome Bytes → Bool
one_spelling x y (accepted bytes) = same_bytes x bytes && same_bytes y bytes
one_spelling x y (refused n p) = false

-- two meanings by their pairs: the first as both writers write it, the second as today's does; or two equal
-- refusals
abbrev alike : Outcome Meaning → Outcome Meaning → Bool
alike (accepted m) (accepted k) = one_spelling (spelling_before m) (spelling_of m) (spelling_of k)
alike (accepted m) (refused n p) = false
alike (refused n p) (accepted k) = false
alike (refused n p) (refused j q) = eqb n j && eqb p q

abbrev as_before : ℕ → ℕ → Bool
as_before a b = sixteen a b || alike (meaning_before a b) (meaning_of a b)

-- the test over all 65,536 pairs, by halves of the first byte: the checker does not compute more at a time
low_half : T (every (λ a. every (as_before a) 256) 128)
low_half = tt

high_half : T (every (λ a. every (as_before (128 + a)) 256) 128)
high_half = tt

all_as_before : (a b : ℕ) → a < 256 → b < 256 → T (as_before a b)
all_as_before a b ha hb =
    elim (dec_lt a 128) [
      | yes low ↦ every_at (as_before a) 256 (every_at (λ k. every (as_before k) 256) 128 low_half a low) b hb
      | no high ↦
          let k = a - 128 in
          let t = every_at (λ k. every (as_before (128 + k)) 256) 128 high_half k (omega (arith, high)) in
          let same : 128 + k ≡ a = omega (arith, high) in
          subst (λ (j : ℕ). T (as_before j b)) same (every_at (as_before (128 + k)) 256 t b hb)
    ]

-- what the test shows of two outcomes
record Alike (x y : Outcome Meaning) : Type 0 where
  means : x ≡ y
  written : (m : Meaning) → y ≡ accepted m → spelling_before m ≡ spelling_of m

-- two meanings that are written as one pair are one meaning: what is written reads back
one_alike : (m k : Meaning) (z : Outcome Bytes) → spelling_of k ≡ z → T (one_spelling (spelling_before m) (spelling_of m) z)
    → Alike (accepted m) (accepted k)
one_alike m k (refused n p) e t = absurd t
one_alike m k (accepted bytes) e t =
    let old = same_bytes (spelling_before m) bytes in
    let new = same_bytes (spelling_of m) bytes in
    let before = bytes_same (spelling_before m) bytes (all_left old new t) in
    let now = bytes_same (spelling_of m) bytes (all_right old new t) in
    let one-reads = reading_and_writing.written_reads m bytes.first bytes.second now in
    let other-reads = reading_and_writing.written_reads k bytes.first bytes.second e in
    let one : m ≡ k = accepted-once (sym one-reads.0 ∙ other-reads.0) in
    record {
      means = ap accepted one;
      written = λ j q. subst (λ (i : Meaning). spelling_before i ≡ spelling_of i) (one ∙ accepted-once q) (before ∙ sym now);
    }

alike_shows : (x y : Outcome Meaning) → T (alike x y) → Alike x y
alike_shows (accepted m) (accepted k) t = one_alike m k (spelling_of k) refl t
alike_shows (accepted m) (refused n p) t = absurd t
alike_shows (refused n p) (accepted k) t = absurd t
alike_shows (refused n p) (refused j q) t =
    let numbers = eqb→eq n j (all_left (eqb n j) (eqb p q) t) in
    let places = eqb→eq p q (all_right (eqb n j) (eqb p q) t) in
    record { means = λ i. refused (numbers i) (places i); written = λ m e. absurd (two_ways e) }

pair-alike : (a b : ℕ) → a < 256 → b < 256 → sixteen a b ≡ false → Alike (meaning_before a b) (meaning_of a b)
pair-alike a b ha hb other =
    alike_shows (meaning_before a b) (meaning_of a b)
    (subst (λ (s : Bool). T (s || alike (meaning_before a b) (meaning_of a b))) other (all_as_before a b ha hb))

-- Every pair but 01 83 and 01 8B means what it meant before, or is refused as it was.
pub means_as_before : (a b : ℕ) → a < 256 → b < 256 → sixteen a b ≡ false → meaning_before a b ≡ meaning_of a b
means_as_before a b ha hb other = (pair-alike a b ha hb other).means

-- What such a pair means is written as it was before.
pub written_as_before : (m : Meaning) (a b : ℕ) → Means m a b → sixteen a b ≡ false → spelling_before m ≡ spelling_of m
written_as_before m a b h other = (pair-alike a b h.1 h.2 other).written m h.0

-- Before request (ii) 01 83 and 01 8B were unassigned, and DEF 16 and CAL 16 were meanings without a pair.
pub sixteen-before : (meaning_before 0x01 0x83 ≡ refused 27 0) × (meaning_before 0x01 0x8B ≡ refused 27 0)
    × (spelling_before (Def 16) ≡ no_bytes) × (spelling_before (Cal 16) ≡ no_bytes)
sixteen-before = (refl, refl, refl, refl)

-- Now they are these two meanings, and these are written so.
pub sixteen_now : (meaning_of 0x01 0x83 ≡ accepted (Def 16)) × (meaning_of 0x01 0x8B ≡ accepted (Cal 16))
    × (spelling_of (Def 16) ≡ pair 0x01 0x83) × (spelling_of (Cal 16) ≡ pair 0x01 0x8B)
sixteen_now = (refl, refl, refl, refl)
