-- Each tag's value is defined by its name alone, and over the list of lines: exchanging two neighbouring
-- lines that are not both TIME changes neither the refusal nor any value but where texts stand.
-- placed          lines as their bytes, each after the one before and its CR LF, from an offset of a file on
-- end_of           where what follows them begins
-- both_time        two lines are both of TIME
-- line_of          the bytes of the line of a tag by its number; none where there is no such line
-- exchange        where the steps of two lines may be exchanged, so may the lines
-- nth_line        what the line of a tag by its number states is what its bytes say, but for the place
-- as_is, exchanged lines with two neighbours among them, and the same lines with the two exchanged
-- end-exchanged   what follows the lines begins where it did
-- count-exchanged, bad-exchanged, again-exchanged, lines-exchanged   52 is the same
-- That the line and the value of each tag are the same stands in proofs/Exchange.antt, that 53 and the header
-- are in proofs/Header.antt.
use Prim.Native.Nat.{ℕ, zero, suc, ◌+◌}
use Rattle.std.specs.Prelude.{Option, Some, None, ◌≡◌, refl, Bool, true, false, ◌&&◌, ◌||◌, length}
use Rattle.std.proofs.Common.{sym, ◌∙◌, arith}
use Rattle.std.proofs.Math.Path.{ap}
use mathlib.Core.List.{List, [], ◌∷◌, ◌++◌}
use Rattle.logic.specs.Cases.{cases}
use Rattle.characters.specs.Characters.{stands}
use Rattle.saptags.specs.declared.Tag.{Tag}
use Rattle.saptags.specs.declared.Tag.TheVariants as tag
use Rattle.saptags.specs.Tags.{tag_at}
use Rattle.saplines.specs.declared.Line.{Line}
use Rattle.saplines.specs.Lines.{line_at}
use Rattle.saptext.specs.Text.{StoredLine}
use Rattle.saptext.specs.Stated.{entry_of, is_bad, is_of, tagged, one_more, count_of, any_bad, once_tags, any_twice, again, bad_lines, stated_by, nth_of}
use Rattle.saplaws.specs.Unplaced.{unplaced}

abbrev pub placed : ℕ → List (List ℕ) → List StoredLine
placed at [] = []
placed at (l ∷ ls) = record { from = at; bytes = l } ∷ placed (at + length l + 2) ls

abbrev pub end_of : ℕ → List (List ℕ) → ℕ
end_of at [] = at
end_of at (l ∷ ls) = end_of (at + length l + 2) ls

abbrev pub both_time : List ℕ → List ℕ → Bool
both_time x y = is_of tag.Time (entry_of x) && is_of tag.Time (entry_of y)

abbrev pub picked : Bool → ℕ → List ℕ → (ℕ → List ℕ) → List ℕ
picked true zero here later = here
picked true (suc n) here later = later n
picked false n here later = later n

unfoldable pub line_of : Tag → ℕ → List StoredLine → List ℕ
line_of t n [] = []
line_of t n (l ∷ ls) = picked (tagged t l) n l.bytes (λ k. line_of t k ls)

-- the place after two lines
place_same : (at a b : ℕ) → at + a + 2 + b + 2 ≡ at + b + 2 + a + 2
place_same at a b = omega arith

-- what is made of lines step by step, each step by a line's bytes alone
module _ {A : Type 0} (f : List StoredLine → A) (step : List ℕ → A → A)
    (steps : (l : StoredLine) (ls : List StoredLine) → f (l ∷ ls) ≡ step l.bytes (f ls)) where
  one : (at : ℕ) (l : List ℕ) (ls : List (List ℕ)) → f (placed at (l ∷ ls)) ≡ step l (f (placed (at + length l + 2) ls))
  one at l ls = steps (record { from = at; bytes = l }) (placed (at + length l + 2) ls)

  two : (at : ℕ) (x y : List ℕ) (ls : List (List ℕ))
      → f (placed at (x ∷ y ∷ ls)) ≡ step x (step y (f (placed (at + length x + 2 + length y + 2) ls)))
  two at x y ls = one at x (y ∷ ls) ∙ ap (step x) (one (at + length x + 2) y ls)

  -- Where the steps of two lines may be exchanged, so may the lines.
  pub exchange : (x y : List ℕ) (after : List (List ℕ)) → ((a : A) → step x (step y a) ≡ step y (step x a))
      → (at : ℕ) (before : List (List ℕ)) → f (placed at (before ++ x ∷ y ∷ after)) ≡ f (placed at (before ++ y ∷ x ∷ after))
  exchange x y after swap at [] =
      two at x y after
      ∙ swap (f (placed (at + length x + 2 + length y + 2) after))
      ∙ rw (place_same at (length x) (length y)) (sym (two at y x after))
  exchange x y after swap at (l ∷ ls) =
      one at l (ls ++ x ∷ y ∷ after)
      ∙ ap (step l) (exchange x y after swap (at + length l + 2) ls)
      ∙ sym (one at l (ls ++ y ∷ x ∷ after))

-- the steps of counting and of a test
swap-count : (a b : Bool) (n : ℕ) → one_more a (one_more b n) ≡ one_more b (one_more a n)
swap-count true b n = cases b (λ e. rw e) (λ e. rw e)
swap-count false b n = refl

swap_or : (a b c : Bool) → a || (b || c) ≡ b || (a || c)
swap_or true b c = cases b (λ e. rw e) (λ e. rw e)
swap_or false b c = refl

-- A line that has no bytes is bad.
pub entry_none : entry_of [] ≡ None
unfolding line_at tag_at stands
entry_none = refl

-- a line at another place
line-moved : (from : ℕ) (e : Option Line) → unplaced (stated_by from e) ≡ unplaced (stated_by 0 e)
line-moved from None = refl
line-moved from (Some k) = refl

-- What the line of a tag by its number states is what its bytes say, but for the place.
pub nth_line : (t : Tag) (n : ℕ) (ls : List StoredLine) → unplaced (nth_of t n ls) ≡ unplaced (stated_by 0 (entry_of (line_of t n ls)))
unfolding nth_of line_of
nth_line t n [] = rw entry_none
nth_line t zero (l ∷ ls) = cases (tagged t l) (λ e. rw e (line-moved l.from (entry_of l.bytes))) (λ e. rw e (nth_line t zero ls))
nth_line t (suc n) (l ∷ ls) = cases (tagged t l) (λ e. rw e (nth_line t n ls)) (λ e. rw e (nth_line t (suc n) ls))

module _ (x y : List ℕ) (after : List (List ℕ)) where
  abbrev pub as_is : ℕ → List (List ℕ) → List StoredLine
  as_is at before = placed at (before ++ x ∷ y ∷ after)

  abbrev pub exchanged : ℕ → List (List ℕ) → List StoredLine
  exchanged at before = placed at (before ++ y ∷ x ∷ after)

  -- What follows the lines begins where it did.
  pub end-exchanged : (at : ℕ) (before : List (List ℕ)) → end_of at (before ++ x ∷ y ∷ after) ≡ end_of at (before ++ y ∷ x ∷ after)
  end-exchanged at [] = ap (λ (k : ℕ). end_of k after) (place_same at (length x) (length y))
  end-exchanged at (l ∷ ls) = end-exchanged (at + length l + 2) ls

  -- As many lines are of each tag,
  pub count-exchanged : (t : Tag) (at : ℕ) (before : List (List ℕ)) → count_of t (as_is at before) ≡ count_of t (exchanged at before)
  count-exchanged t =
      exchange (count_of t) (λ l. one_more (is_of t (entry_of l))) (λ l ls. refl) x y after
      (swap-count (is_of t (entry_of x)) (is_of t (entry_of y)))

  -- some line is bad or none is,
  pub bad-exchanged : (at : ℕ) (before : List (List ℕ)) → any_bad (as_is at before) ≡ any_bad (exchanged at before)
  bad-exchanged = exchange any_bad (λ l b. is_bad (entry_of l) || b) (λ l ls. refl) x y after (swap_or (is_bad (entry_of x)) (is_bad (entry_of y)))

  module _ (at : ℕ) (before : List (List ℕ)) where
    -- and some tag but TIME comes twice or none does;
    pub again-exchanged : again (as_is at before) ≡ again (exchanged at before)
    again-exchanged = each once_tags
      where
        each : (ts : List Tag) → any_twice ts (as_is at before) ≡ any_twice ts (exchanged at before)
        each [] = refl
        each (t ∷ ts) = rw (count-exchanged t at before, each ts)

    -- so the lines are bad or they are not: 52 is the same.
    pub lines-exchanged : bad_lines (as_is at before) ≡ bad_lines (exchanged at before)
    lines-exchanged = rw (bad-exchanged at before, again-exchanged)
