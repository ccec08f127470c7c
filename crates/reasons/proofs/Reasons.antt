-- The table's phrase of a number is that of the reason with this number, and none where there is no such
-- reason. Assumes nothing.
use Rattle.std.specs.Prelude.{Result, Ok, Err, ℕ, ◌≡◌, List, [], ◌∷◌, eqb}
use Rattle.std.proofs.Common.{refl, sym, ap, ◌∙◌}
use Rattle.std.proofs.lemmas.Bool.Decides.{nat_tests}
use Rattle.std.proofs.Common.{arith}
use Rattle.logic.specs.Cases.{cases}
use Rattle.refusals.specs.declared.Reason.{Reason}
use Rattle.refusals.specs.declared.UnknownNumber.{UnknownNumber}
use Rattle.refusals.specs.Numbers.{number_of, numbered, reason_numbered}
use Rattle.fields.specs.Parts.{byte_text}
use Rattle.reasons.specs.Phrases.{phrase_of, table, found, phrase_at}

abbrev phrase_for : Result Reason UnknownNumber → List ℕ
phrase_for (Ok r) = byte_text (phrase_of r)
phrase_for (Err x) = []

flipped : (n k : ℕ) → eqb n k ≡ eqb k n
flipped n k = grind (arith, nat_tests)

found_numbered : (rs : List Reason) (n : ℕ) → found rs n ≡ phrase_for (numbered rs n)
found_numbered [] n = refl
found_numbered (r ∷ rs) n = cases (eqb n (number_of r)) (λ e. rw (e, flipped (number_of r) n ∙ e)) (λ e. rw (e, flipped (number_of r) n ∙ e) (found_numbered rs n))

-- The phrase of a number that a reason has is that reason's.
pub phrase_numbered : (n : ℕ) (r : Reason) → reason_numbered n ≡ Ok r → byte_text (phrase_of r) ≡ phrase_at n
phrase_numbered n r e = sym (found_numbered table n ∙ ap phrase_for e)

-- A number that no reason has has no phrase.
pub phrase_unnumbered : (n : ℕ) (x : UnknownNumber) → reason_numbered n ≡ Err x → phrase_at n ≡ []
phrase_unnumbered n x e = found_numbered table n ∙ ap phrase_for e
