-- docs/INTERFACE.md, 'The code of a meaning': a code written as the two bytes of a pair.
-- bytes_number   two bytes as one number: first × 256 + second
-- written       a code's two bytes; 'For every other number `tt_pair_write` answers 43'
use Rattle.std.specs.Prelude.{ℕ, ◌+◌, ◌*◌}
use Rattle.refusals.specs.Numbers.{Outcome}
use Rattle.refusals.specs.Tests.{and_then}
use Rattle.meaning.specs.declared.Bytes.{Bytes}
use Rattle.decoding.specs.Decoding.{decoded}
use Rattle.pair.specs.Pairs.{spelling_of}

abbrev pub bytes_number : Bytes → ℕ
bytes_number b = b.first * 256 + b.second

unfoldable pub written : ℕ → Outcome Bytes
written code = and_then (decoded code) (λ m. spelling_of m)
