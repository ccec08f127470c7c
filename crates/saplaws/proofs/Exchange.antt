-- Two neighbouring lines exchanged that are not both TIME: the line of a tag by its number is the same.
-- line-exchanged  the line of each tag is the same
-- nth_exchanged   so the value of each tag and the time of each song are the same
use Prim.Native.Nat.{ℕ, zero, suc, ◌+◌, ◌<◌}
use Rattle.std.specs.Prelude.{◌≡◌, refl, Bool, true, false, ◌&&◌, length, eqb}
use Rattle.std.proofs.Common.{sym, subst, ◌∙◌, arith, eqb-true}
use Rattle.std.proofs.Math.Path.{ap}
use Rattle.std.proofs.lemmas.Bool.{false≢true}
use mathlib.Core.List.{List, [], ◌∷◌}
use Rattle.logic.specs.Cases.{cases}
use Rattle.logic.specs.Truth.{both, neither_right}
use Rattle.saptags.specs.declared.Tag.{Tag}
use Rattle.saptags.specs.declared.Tag.TheVariants as tag
use Rattle.saptags.specs.Tags.{index_of}
use Rattle.saptags.specs.Laws.{index-once}
use Rattle.saptext.specs.Stated.{entry_of, is_of, count_of, any_bad, again, bad_lines, stated_by, nth_of}
use Rattle.saptext.proofs.Named.{twice-again}
use Rattle.saplaws.specs.Unplaced.{unplaced}
use Rattle.saplaws.specs.Exchange.{both_time, picked, line_of, exchange, nth_line, as_is, exchanged}

-- the steps of choosing a line by its number
swap-picked : (a b : Bool) → a && b ≡ false → (n : ℕ) (x y : List ℕ) (g : ℕ → List ℕ)
    → picked a n x (λ k. picked b k y g) ≡ picked b n y (λ k. picked a k x g)
swap-picked true true e n x y g = absurd (false≢true (sym e))
swap-picked true false e zero x y g = refl
swap-picked true false e (suc n) x y g = refl
swap-picked false true e zero x y g = refl
swap-picked false true e (suc n) x y g = refl
swap-picked false false e n x y g = refl

module _ (x y : List ℕ) (after : List (List ℕ)) where
  -- two lines of a tag count two
  two-count : (t : Tag) → is_of t (entry_of x) ≡ true → is_of t (entry_of y) ≡ true
      → (at : ℕ) (before : List (List ℕ)) → 1 < count_of t (as_is x y after at before)
  two-count t h k at [] = rw (h, k) (omega arith)
  two-count t h k at (l ∷ ls) =
      let later = two-count t h k (at + length l + 2) ls in cases (is_of t (entry_of l)) (λ e. rw e (omega arith)) (λ e. rw e later)

  module _ (apart : both_time x y ≡ false) (at : ℕ) (before : List (List ℕ)) (fine : bad_lines (as_is x y after at before) ≡ false) where
    -- two neighbours of good lines are of one tag only where both are TIME
    tag-apart : (t : Tag) → is_of t (entry_of x) && is_of t (entry_of y) ≡ false
    tag-apart t = cases (is_of t (entry_of x) && is_of t (entry_of y)) (λ e. absurd (go e)) (λ e. e)
      where
        go : is_of t (entry_of x) && is_of t (entry_of y) ≡ true → ⊥
        go e =
            let two = both (is_of t (entry_of x)) (is_of t (entry_of y)) e in
            cases (eqb (index_of t) 13)
            (λ q.
            let time = index-once t tag.Time (eqb-true (index_of t) 13 q) in
            false≢true (sym apart ∙ subst (λ (u : Tag). is_of u (entry_of x) && is_of u (entry_of y) ≡ true) time e))
            (λ q.
            let twice = twice-again t (as_is x y after at before) q (two-count t two.0 two.1 at before) in
            false≢true (sym (neither_right (any_bad (as_is x y after at before)) (again (as_is x y after at before)) fine) ∙ twice))

    -- Of good lines, where the two are not both TIME: the line of a tag by its number has the same bytes,
    pub line-exchanged : (t : Tag) (n : ℕ) → line_of t n (as_is x y after at before) ≡ line_of t n (exchanged x y after at before)
    unfolding line_of
    line-exchanged t n =
        ap (λ (g : ℕ → List ℕ). g n)
        (exchange (λ ls k. line_of t k ls) (λ l g k. picked (is_of t (entry_of l)) k l g) (λ l ls. refl) x y after
        (λ g i k. swap-picked (is_of t (entry_of x)) (is_of t (entry_of y)) (tag-apart t) k x y g i) at before)

    -- and states the same but for the place: the value of each tag and the time of each song are the same.
    pub nth_exchanged : (t : Tag) (n : ℕ) → unplaced (nth_of t n (as_is x y after at before)) ≡ unplaced (nth_of t n (exchanged x y after at before))
    nth_exchanged t n =
        nth_line t n (as_is x y after at before)
        ∙ ap (λ (l : List ℕ). unplaced (stated_by 0 (entry_of l))) (line-exchanged t n)
        ∙ sym (nth_line t n (exchanged x y after at before))
