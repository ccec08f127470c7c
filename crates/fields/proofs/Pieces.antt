-- An entry of a list is the piece between marks that has its number. Assumes nothing.
use Rattle.std.specs.Prelude.{ℕ, zero, suc, ◌+◌, ◌-◌, ◌≡◌, ◌==◌, Option, None, Some, List, [], ◌∷◌, get_or, eqb, option_map, unwrap_or}
use Rattle.std.specs.List.{slice_split, onto_first}
use Rattle.std.proofs.Common.{refl, ap, ◌∙◌, arith}
use Rattle.std.proofs.Math.Dec.{eqb-suc-zero}
use denote.Ref.{Bor}
use Rattle.logic.specs.Cases.{cases}
use Rattle.fields.specs.Parts.{before}
use Rattle.fields.specs.Entries.{entry_start, entry_at}

pub now_of : (r : Option (Bor (List ℕ))) (d : Bor (List ℕ)) → (unwrap_or r d).now ≡ unwrap_or (option_map (λ (x : Bor (List ℕ)). x.now) r) d.now
now_of None d = refl
now_of (Some x) d = refl

first_onto : (b : ℕ) (ps : List (List ℕ)) → get_or (onto_first b ps) 0 [] ≡ b ∷ get_or ps 0 []
first_onto b [] = refl
first_onto b (p ∷ ps) = refl

later_onto : (b : ℕ) (ps : List (List ℕ)) (n : ℕ) → get_or (onto_first b ps) (suc n) [] ≡ get_or ps (suc n) []
later_onto b [] n = refl
later_onto b (p ∷ ps) n = refl

module _ (mark : ℕ) where
  start : (s : List ℕ) → entry_start s mark 0 ≡ 0
  unfolding entry_start
  start [] = refl
  start (b ∷ bs) = refl

  pub piece_entry : (s : List ℕ) (n : ℕ) → get_or (slice_split (λ b. b == mark) s) n [] ≡ entry_at s mark n
  unfolding entry_at entry_start before
  piece_entry [] zero = refl
  piece_entry [] (suc n) = refl
  piece_entry (b ∷ bs) zero =
      cases (eqb b mark) (λ e. rw e) (λ e. rw (e, first_onto b (slice_split (λ b. b == mark) bs)) (ap (λ (l : List ℕ). b ∷ l) (piece_entry bs zero ∙ rw (start bs))))
  piece_entry (b ∷ bs) (suc n) =
      let one : suc n - 1 ≡ n = omega arith in
      let more : 1 + entry_start bs mark n ≡ suc (entry_start bs mark n) = omega arith in
      let more' : 1 + entry_start bs mark (suc n) ≡ suc (entry_start bs mark (suc n)) = omega arith in
      cases (eqb b mark)
      (λ e. rw (eqb-suc-zero n, e, one, more) (piece_entry bs n))
      (λ e. rw (eqb-suc-zero n, e, later_onto b (slice_split (λ b. b == mark) bs) n, more') (piece_entry bs (suc n)))
