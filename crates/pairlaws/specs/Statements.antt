-- Document 01, 'A pair': what holds of reading and writing together, for every meaning and every pair.
-- Means               two bytes that mean this
-- HasPair             a meaning that some pair has
-- ReadingAndWriting   the laws; proofs/Laws.antt proves them
use Rattle.std.specs.Prelude.{ℕ, ◌<◌, ◌≡◌}
use Rattle.meaning.specs.declared.Meaning.{Meaning}
use Rattle.refusals.specs.Numbers.Outcome.{accepted, refused}
use Rattle.spelling.specs.Counts.{pair, no_bytes}
use Rattle.pair.specs.Pairs.{meaning_of, spelling_of}
use Rattle.pair.specs.Preferred.{preferred}

abbrev pub Means : Meaning → ℕ → ℕ → Type 0
Means m a b = (meaning_of a b ≡ accepted m) × (a < 256) × (b < 256)

pub record HasPair (m : Meaning) : Type 0 where
  pub first : ℕ
  pub second : ℕ
  pub means : Means m first second

pub record ReadingAndWriting : Type 0 where
  -- What is written reads back as what was to be written.
  pub written_reads : (m : Meaning) (a b : ℕ) → spelling_of m ≡ pair a b → Means m a b
  -- What a pair means is written, as the pair that document 01 names for it.
  pub read-written : (m : Meaning) (a b : ℕ) → Means m a b → spelling_of m ≡ accepted (preferred a b)
  -- The writer uses no pair but those that document 01 names.
  pub written-preferred : (m : Meaning) (a b : ℕ) → spelling_of m ≡ pair a b → preferred a b ≡ record { first = a; second = b }
  -- '43 no pair has this meaning': where 43 is answered no pair has it,
  pub unwritten_none : (m : Meaning) → spelling_of m ≡ no_bytes → HasPair m → ⊥
  -- and where no pair has it 43 is answered.
  pub none_unwritten : (m : Meaning) → (HasPair m → ⊥) → spelling_of m ≡ no_bytes
  -- The writer refuses with 43 and no other number, at place 0.
  pub unwritten : (m : Meaning) (number place : ℕ) → spelling_of m ≡ refused number place → (number ≡ 43) × (place ≡ 0)
  -- The pair that document 01 names for what a pair means has the same meaning,
  pub preferred-means : (m : Meaning) (a b : ℕ) → Means m a b → Means m (preferred a b).first (preferred a b).second
  -- and it is one for all pairs of that meaning.
  pub same_preferred : (m : Meaning) (a b c d : ℕ) → Means m a b → Means m c d → preferred a b ≡ preferred c d
