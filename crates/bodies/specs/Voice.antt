-- Document 01, 'MUS container' and 'Playing a voice': a voice is its stored pairs, and each pair is what it
-- means.
-- Reader   a way to read a voice's bytes as its pairs
-- pairs_by  the pairs of a voice's bytes in stored order, each as what two bytes mean by some table
-- pairs    the reader of document 01: by its tables, each pair as its meaning, or 27 or 28
-- bytes_at  the bytes of the pair with a number, counted from 0
-- pair_at   what that pair means
-- plain_at  a pair that passes tests which only events pass
use Rattle.std.specs.Prelude.{ℕ, ◌+◌, ◌*◌, Bool, List, [], ◌∷◌, get_or}
use Rattle.meaning.specs.declared.Meaning.{Meaning}
use Rattle.refusals.specs.Numbers.{Outcome}
use Rattle.pair.specs.Pairs.{meaning_of}
use Rattle.kind.specs.Plain.{is_plain}
use Rattle.meaning.specs.declared.Bytes.{Bytes}

abbrev pub Reader : Type 0
Reader = List ℕ → List (Outcome Meaning)

unfoldable pub pairs_by : (ℕ → ℕ → Outcome Meaning) → Reader
pairs_by means [] = []
pairs_by means (a ∷ []) = []
pairs_by means (a ∷ b ∷ bs) = means a b ∷ pairs_by means bs

unfoldable pub pairs : Reader
pairs bs = pairs_by meaning_of bs

abbrev pub bytes_at : List ℕ → ℕ → Bytes
bytes_at bs i = record { first = get_or bs (2 * i) 0; second = get_or bs (2 * i + 1) 0 }

unfoldable pub pair_at : List ℕ → ℕ → Outcome Meaning
pair_at bs i = meaning_of (get_or bs (2 * i) 0) (get_or bs (2 * i + 1) 0)

unfoldable pub plain_at : List ℕ → ℕ → Bool
plain_at bs i = is_plain (get_or bs (2 * i) 0) (get_or bs (2 * i + 1) 0)
