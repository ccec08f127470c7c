-- What a pair means is written, as document 01 says that the writer does: what this says of one pair.
-- WrittenAs                so for one pair and what it means
-- same_bytes, bytes_same   two pairs of bytes are the same, as a test
-- written_as, tested       the first as a test
-- ReadWritten.antt shows it for all 65,536 pairs.
use Prim.Native.Nat.{ℕ}
use mathlib.Core.Path.{◌≡◌}
use mathlib.Core.Bool.{Bool, true, false, ◌&&◌}
use lib.Dec.{T, eqb, eqb→eq}
use Rattle.refusals.specs.Numbers.{Outcome}
use Rattle.refusals.specs.Numbers.Outcome.{accepted, refused}
use Rattle.meaning.specs.declared.Meaning.{Meaning}
use Rattle.meaning.specs.declared.Bytes.{Bytes}
use Rattle.logic.specs.Every.{all_left, all_right}
use Rattle.pair.specs.Pairs.{spelling_of}
use Rattle.pair.specs.Preferred.{preferred}

abbrev pub WrittenAs : ℕ → ℕ → Outcome Meaning → Type 0
WrittenAs a b (accepted m) = spelling_of m ≡ accepted (preferred a b)
WrittenAs a b (refused number place) = Unit

-- the same as a test, for the first bytes that have 256 pairs and no more
abbrev pub same_bytes : Outcome Bytes → Bytes → Bool
same_bytes (accepted x) y = eqb x.first y.first && eqb x.second y.second
same_bytes (refused number place) y = false

abbrev pub written_as : ℕ → ℕ → Outcome Meaning → Bool
written_as a b (accepted m) = same_bytes (spelling_of m) (preferred a b)
written_as a b (refused number place) = true

pub bytes_same : (o : Outcome Bytes) (y : Bytes) → T (same_bytes o y) → o ≡ accepted y
bytes_same (accepted x) y t =
    let first = eqb→eq x.first y.first (all_left (eqb x.first y.first) (eqb x.second y.second) t) in
    let second = eqb→eq x.second y.second (all_right (eqb x.first y.first) (eqb x.second y.second) t) in
    λ i. accepted (record { first = first i; second = second i })
bytes_same (refused number place) y t = absurd t

pub tested : (a b : ℕ) (o : Outcome Meaning) → T (written_as a b o) → WrittenAs a b o
tested a b (accepted m) t = bytes_same (spelling_of m) (preferred a b) t
tested a b (refused number place) t = tt
