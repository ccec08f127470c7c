-- What has room in a list, for the functions that put text there.
-- full-after, full-placed      a full list takes no more
-- after-after, placed-placed   one text and then another are both in one
-- then_after, then_placed      the same of a list and a place that the first text left
-- fitting_all                  a text that has room is put whole
-- put-digits                   cells written up to a place, those before and after as they were, are a text
--                              put
use Rattle.std.proofs.Common.{ℕ, zero, suc, ◌≡◌, ◌+◌, ◌-◌, ◌≤◌, List, [], ◌∷◌, ◌++◌, length, take, drop}
use Rattle.std.proofs.Common.{refl, sym, ap, ◌∙◌, arith, leb, append_assoc, length-append, length-take}
use Rattle.std.proofs.Math.ListN.{drop_of_length-le}
use Rattle.std.proofs.Math.Seq.{drop-append-add}
use Rattle.std.proofs.lemmas.List.{append-nil, take_all, take_at, length-take-le, drop-drop}
use Rattle.std.proofs.lemmas.List.{take-append-drop}
use Rattle.std.proofs.lemmas.Bool.{leb-true, leb-false}
use Rattle.logic.specs.Cases.{cases}
use Rattle.fields.specs.Parts.{put}
use Rattle.fields.proofs.Memory.{length-put}
use Rattle.printing.specs.Placing.{fitting, text_placed, after_text}

module _ (out : List ℕ) (at : ℕ) (text : List ℕ) where
  fitting_none : length out ≤ at → fitting out at text ≡ []
  unfolding fitting
  fitting_none h = let none : length out - at ≡ 0 = omega arith in rw none

  pub full-after : length out ≤ at → at ≡ after_text out at text
  full-after h = rw (fitting_none h) (omega arith)

  pub full-placed : length out ≤ at → out ≡ text_placed out at text
  unfolding put
  full-placed h =
      let end : at + 0 ≡ at = omega arith in
      rw (fitting_none h, end, take_all at out h, drop_of_length-le out h) (simp append-nil)

  pub fitting_all : length text ≤ length out - at → fitting out at text ≡ text
  unfolding fitting
  fitting_all h = take_all (length out - at) text h

  length-fitting : at ≤ length out → at + length (fitting out at text) ≤ length out
  unfolding fitting
  length-fitting h = simp length-take (omega arith)

-- of two lists in one, so many
take-both : (n : ℕ) (a b : List ℕ) → take n (a ++ b) ≡ take n a ++ take (n - length (take n a)) b
take-both zero a b = refl
take-both (suc n) [] b = let all : suc n - 0 ≡ suc n = omega arith in rw all
take-both (suc n) (x ∷ a) b =
    let less : suc n - suc (length (take n a)) ≡ n - length (take n a) = omega arith in
    rw less (ap (λ (l : List ℕ). x ∷ l) (take-both n a b))

put-put : (m : List ℕ) (at : ℕ) (p q : List ℕ) → at ≤ length m
    → put (put m at p) (at + length p) q ≡ put m at (p ++ q)
unfolding put
put-put m at p q h =
    let start : length (take at m ++ p) ≡ at + length p =
    simp length-append (omega (arith, length-take-le at m h)) in
    let later = drop (at + length p) m in
    let end = at + length p + length q in
    let rest : drop end ((take at m ++ p) ++ later) ≡ drop end m =
    rw start at (drop-append-add (take at m ++ p) later (length q)) ∙ drop-drop (length q) (at + length p) m in
    let both : at + length (p ++ q) ≡ at + length p + length q = simp length-append (omega arith) in
    rw (take_at (take at m ++ p) later (at + length p) start, rest, both, append_assoc (take at m) p q)

module _ (out : List ℕ) (at : ℕ) (a b : List ℕ) where
  room : at ≤ length out
      → fitting out at (a ++ b) ≡ fitting out at a ++ fitting (text_placed out at a) (after_text out at a) b
  unfolding fitting
  room h =
      let fits = length-fitting out at a h in
      let front = fitting out at a in
      let same = length-put out at front fits in
      let left : length (text_placed out at a) - after_text out at a ≡ length out - at - length front =
      omega arith in
      take-both (length out - at) a b ∙ rw left

  pub after-after : after_text (text_placed out at a) (after_text out at a) b ≡ after_text out at (a ++ b)
  after-after =
      let end = length out in
      cases (leb at end) (λ e. inside (leb-true at end e)) (λ e. past (leb-false at end e))
    where
      inside : at ≤ length out
          → after_text (text_placed out at a) (after_text out at a) b ≡ after_text out at (a ++ b)
      inside h = rw (room h) (simp length-append (omega arith))

      past : suc (length out) ≤ at
          → after_text (text_placed out at a) (after_text out at a) b ≡ after_text out at (a ++ b)
      past h =
          let full : length out ≤ at = omega arith in
          rw (← full-after out at a full, ← full-placed out at a full)
          (sym (full-after out at b full) ∙ full-after out at (a ++ b) full)

  pub placed-placed : text_placed (text_placed out at a) (after_text out at a) b ≡ text_placed out at (a ++ b)
  placed-placed =
      let end = length out in
      cases (leb at end) (λ e. inside (leb-true at end e)) (λ e. past (leb-false at end e))
    where
      inside : at ≤ length out
          → text_placed (text_placed out at a) (after_text out at a) b ≡ text_placed out at (a ++ b)
      inside h =
          let rest = fitting (text_placed out at a) (after_text out at a) b in
          put-put out at (fitting out at a) rest h ∙ rw (room h)

      past : suc (length out) ≤ at
          → text_placed (text_placed out at a) (after_text out at a) b ≡ text_placed out at (a ++ b)
      past h =
          let full : length out ≤ at = omega arith in
          rw (← full-after out at a full, ← full-placed out at a full)
          (sym (full-placed out at b full) ∙ full-placed out at (a ++ b) full)

  module _ {mid : List ℕ} {to : ℕ} (mid-is : mid ≡ text_placed out at a)
      (to_is : to ≡ after_text out at a) where
    pub then_after : after_text mid to b ≡ after_text out at (a ++ b)
    then_after = rw (mid-is, to_is) after-after

    pub then_placed : text_placed mid to b ≡ text_placed out at (a ++ b)
    then_placed = rw (mid-is, to_is) placed-placed

pub put-digits : (out new p : List ℕ) (at from to : ℕ) → at + length p ≡ to → from + length p ≡ to
    → take from new ≡ take from out → drop from new ≡ p ++ drop to out → new ≡ put out at p
unfolding put
put-digits out new p at from to ends begins before written =
    let here : from ≡ at = omega arith in
    sym (take-append-drop from new)
    ∙ rw (before, written, here, ends) (sym (append_assoc (take at out) p (drop to out)))
