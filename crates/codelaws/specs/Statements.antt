-- docs/INTERFACE.md, 'The code of a meaning': coding and decoding, for the meanings that some pair has; and
-- which refusals a number and a pair can have.
-- Coded               a meaning whose code has 32 bits and decodes to it
-- CodingAndDecoding   the laws; proofs/Laws.antt proves them
-- code_shared         why this does not hold of all meanings: P-S 65,537 has the code of P-S -1
-- decoded_unpaired    a number may decode to a meaning that no pair has: P-W 65,535; writing it is 43
use Rattle.std.specs.Prelude.{ℕ, ◌<◌, ◌≡◌, refl, ◌⊎◌, pos, negsuc}
use Rattle.refusals.specs.Numbers.Outcome.{accepted, refused}
use Rattle.meaning.specs.declared.Meaning.{Meaning}
use Rattle.meaning.specs.declared.Meaning.TheVariants.{Ps, Pw}
use Rattle.spelling.specs.Counts.{no_bytes}
use Rattle.pair.specs.Pairs.{meaning_of, spelling_of}
use Rattle.pairlaws.specs.Statements.{HasPair}
use Rattle.codes.specs.Coding.{code_of}
use Rattle.decoding.specs.Decoding.{decoded}

pub record Coded (m : Meaning) : Type 0 where
  pub low : code_of m < 0x100000000
  pub back : decoded (code_of m) ≡ accepted m

pub record CodingAndDecoding : Type 0 where
  -- A meaning that some pair has has a code of 32 bits, and the code decodes to that meaning.
  pub written-coded : (m : Meaning) → HasPair m → Coded m
  -- No two meanings that some pair has share a code.
  pub coded-once : (m k : Meaning) → HasPair m → HasPair k → code_of m ≡ code_of k → m ≡ k
  -- A number that decodes is the code of the meaning that it decodes to; so no two decode to one meaning.
  pub decoded-coded : (n : ℕ) (m : Meaning) → decoded n ≡ accepted m → code_of m ≡ n
  -- A number that does not decode is refused with 43, at place 0.
  pub undecoded : (n number place : ℕ) → decoded n ≡ refused number place → (number ≡ 43) × (place ≡ 0)
  -- A pair is refused with 27 or 28, and 'a call on one pair gives 0' as its place.
  pub pair-refused : (a b number place : ℕ) → meaning_of a b ≡ refused number place → ((number ≡ 27) ⊎ (number ≡ 28)) × (place ≡ 0)

-- P-S 65,537 and P-S -1 share a code: the first has no pair.
pub code_shared : (code_of (Ps (pos 65537)) ≡ code_of (Ps (negsuc 0))) × (spelling_of (Ps (pos 65537)) ≡ no_bytes)
code_shared = (refl, refl)

-- 2020FFFF decodes to P-W 65,535, which no pair has.
pub decoded_unpaired : (decoded 0x2020FFFF ≡ accepted (Pw 65535)) × (spelling_of (Pw 65535) ≡ no_bytes)
unfolding decoded
decoded_unpaired = (refl, refl)
