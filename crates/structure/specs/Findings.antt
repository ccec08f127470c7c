-- Document 01, 'MUS container': 'within a voice first 27 to 29 pair by pair (at one pair the lower number),
-- then 30 and 31 pair by pair'.
-- Found, Clear, At      what tests made pair by pair find: nothing, or a reason at a pair by its number
-- found_at, first_at   tests pair by pair: the first that applies, with the number of its pair
-- is_last             whether no pair is left
-- pairs_tests         27 to 29 for each pair of a voice
-- nestings_tests      30 and 31 for each pair, by what is open and closed there
-- pairs_finding, structure_finding   what they find
-- AllNone            none of the tests applies to any pair
use Rattle.std.specs.Prelude.{ℕ, ◌+◌, Bool, true, false, List, [], ◌∷◌}
use Rattle.meaning.specs.declared.Meaning.{Meaning}
use Rattle.refusals.specs.Numbers.{Outcome}
use Rattle.refusals.specs.declared.Test.{Test}
use Rattle.refusals.specs.Tests.{first_of, None}
use Rattle.refusals.specs.Tests.{Verdict}
use Rattle.std.specs.Prelude.{Result, Ok, Err}
use Rattle.refusals.specs.declared.Reason.{Reason}
use Rattle.kind.specs.Kinds.{kind_of}
use Rattle.structure.specs.declared.Finding.{Finding}
use Rattle.structure.specs.Tests.{pair_tests, Nesting, nesting_tests, nesting_after, start}

abbrev pub Found : Type 0
Found = Result Unit Finding

abbrev pub Clear : Found
Clear = Ok tt

abbrev pub At : Reason → ℕ → Found
At r i = Err (record { reason = r; pair = i })

abbrev pub found_at : Verdict → ℕ → Found → Found
found_at (Ok u) i later = later
found_at (Err r) i later = At r i

unfoldable pub first_at : ℕ → List (List Test) → Found
first_at i [] = Clear
first_at i (ts ∷ later) = found_at (first_of ts) i (first_at (i + 1) later)

abbrev pub is_last : List (Outcome Meaning) → Bool
is_last [] = true
is_last (m ∷ ms) = false

unfoldable pub pairs_tests : List (Outcome Meaning) → List (List Test)
pairs_tests [] = []
pairs_tests (m ∷ ms) = pair_tests (kind_of m) (is_last ms) ∷ pairs_tests ms

unfoldable pub nestings_tests : Nesting → List (Outcome Meaning) → List (List Test)
nestings_tests o [] = []
nestings_tests o (m ∷ ms) = nesting_tests (kind_of m) o ∷ nestings_tests (nesting_after (kind_of m) o) ms

unfoldable pub pairs_finding : List (Outcome Meaning) → Found
pairs_finding v = first_at 0 (pairs_tests v)

unfoldable pub structure_finding : List (Outcome Meaning) → Found
structure_finding v = first_at 0 (nestings_tests start v)

unfoldable pub AllNone : List (List Test) → Type 0
AllNone [] = Unit
AllNone (ts ∷ later) = None ts × AllNone later
