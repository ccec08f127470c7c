-- The phrases as one list, in the order of the numbers from 0 on with an end mark after each, and the table's.
-- phrases-held   one of them by its number is the table's, of every number
use Prim.Native.Nat.{ℕ, zero, suc, ◌+◌, ◌≤◌}
use mathlib.Core.Path.{◌≡◌, refl, sym, ap, ◌∙◌}
use mathlib.Core.Bool.{Bool, true, ◌&&◌}
use mathlib.Core.List.{List, [], ◌∷◌}
use native.Mathlib.Omega.{arith}
use lib.Dec.{ltb}
use lib.ListN.{get_or}
use borrow.Author.Tests.{ne_eqb, ltb-true}
use Rattle.fields.specs.Entries.{entry_at, entries_joined, entry-joined}
use Rattle.refusals.specs.declared.Reason.{Reason}
use Rattle.refusals.specs.Numbers.{number_of}
use Rattle.logic.specs.Truth.{both}
use Rattle.reasons.specs.Phrases.{table, found, phrase_at, bound, phrases_from, phrase_lines}

-- every line of the table has a number below the bound
abbrev bounded : List Reason → Bool
bounded [] = true
bounded (r ∷ rs) = ltb (number_of r) bound && bounded rs

none_past : (rs : List Reason) (n : ℕ) → bounded rs ≡ true → bound ≤ n → found rs n ≡ []
none_past [] n e h = refl
none_past (r ∷ rs) n e h =
    let b = both (ltb (number_of r) bound) (bounded rs) e in
    let l = ltb-true (number_of r) bound b.0 in
    rw (ne_eqb n (number_of r) (λ q. omega arith)) (none_past rs n b.1 h)

phrase-from : (i k n : ℕ) → i + k ≡ bound → get_or (phrases_from i k) n [] ≡ phrase_at (i + n)
phrase-from i zero n e = sym (none_past table (i + n) refl (omega arith))
phrase-from i (suc k) zero e = let m : i ≡ i + 0 = omega arith in ap phrase_at m
phrase-from i (suc k) (suc n) e = let m : i + 1 + n ≡ i + suc n = omega arith in phrase-from (i + 1) k n (omega arith) ∙ ap phrase_at m

pub phrases-held : (n : ℕ) → entry_at (entries_joined 10 phrase_lines) 10 n ≡ phrase_at n
phrases-held n = let m : 0 + n ≡ n = omega arith in entry-joined 10 phrase_lines n refl ∙ phrase-from 0 bound n refl ∙ ap phrase_at m
