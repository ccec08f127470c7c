-- The bytes of AUTHOR, NAME and DATE in a file. That they are the same with two neighbouring lines exchanged
-- stands in proofs/Texts.antt.
-- OfText          the tags whose argument is a text
-- text_bytes       the bytes of a text in a file
-- line_text        the bytes of a line's text
-- line-text       a text lies in its line
-- texts_placed    the bytes of a text in a file are those in its line
use Rattle.std.specs.Prelude.{Option, Some, None, ℕ, zero, suc, ◌+◌, ◌≤◌, ◌≡◌, refl, true, cond, ◌&&◌, take, leb, eqb}
use Rattle.std.proofs.Math.Path.{sym, ap}
use Rattle.std.proofs.Common.{subst, ◌∙◌, length-drop, drop-drop, eqb-true}
use mathlib.Core.List.{List, [], ◌∷◌, ◌++◌}
use native.Mathlib.Omega.{arith}
use Rattle.std.proofs.Math.ListN.{length, drop}
use Rattle.std.proofs.Math.Seq.{drop-append-add}
use Rattle.std.proofs.lemmas.List.{drop-append-le, take-append-le}
use Rattle.logic.specs.Cases.{cases}
use Rattle.characters.specs.Characters.{is_text_character, leading, rest, begins}
use Rattle.saptags.specs.declared.Tag.{Tag}
use Rattle.saptags.specs.declared.Tag.TheVariants as tag
use Rattle.saptags.specs.Tags.{name_of, index_of, tag_at}
use Rattle.saptags.specs.Laws.{index-once}
use Rattle.saparguments.specs.declared.Argument.{Argument}
use Rattle.saparguments.specs.Arguments.{good, text_at}
use Rattle.saparguments.specs.Laws.{good-once, none-good}
use Rattle.saplines.specs.declared.Line.{Line}
use Rattle.saplines.specs.Lines.{good_line, spaced, argument_after, with_argument, with_tag, line_at}
use Rattle.saplines.specs.Laws.{line-once, none-line, line-within}
use Rattle.saptext.specs.Stated.{whole, entry_of, is_of, stated_by, nth_of}
use Rattle.saptext.specs.declared.Stated.{Stated}
use Rattle.saplaws.specs.Exchange.{placed, line_of, entry_none}
use Rattle.saplaws.specs.Files.{closed}

pub data OfText : Tag → Type 0 where
  author : OfText tag.Author
  name : OfText tag.Name
  date : OfText tag.Date

abbrev pub text_bytes : List ℕ → Option Stated → List ℕ
text_bytes f None = []
text_bytes f (Some s) = take s.value (drop s.place f)

abbrev pub line_text : List ℕ → List ℕ
line_text l = text_bytes l (stated_by 0 (entry_of l))

-- a space and a text have three bytes more than the text
spaced-size : (s : List ℕ) (n v : ℕ) → cond (begins 0x20 s) (spaced (text_at (drop 1 s))) None ≡ good n v → n ≡ v + 3
spaced-size s n v e =
    cases (begins 0x20 s) (λ b. go (rw b at e)) (λ b. none-good n v (rw b at e))
  where
    go : spaced (text_at (drop 1 s)) ≡ good n v → n ≡ v + 3
    go h =
        let k = length (leading is_text_character (drop 1 (drop 1 s))) in
        cases (begins 0x22 (drop 1 s) && begins 0x22 (rest is_text_character (drop 1 (drop 1 s))) && leb k 120)
        (λ b. let same = good-once (k + 2 + 1) k n v (rw b at h) in omega (arith, same.0, same.1))
        (λ b. none-good n v (rw b at h))

argument-size : (t : Tag) → OfText t → (s : List ℕ) (n v : ℕ) → argument_after t s ≡ good n v → n ≡ v + 3
unfolding argument_after
argument-size tag.Author author s n v e = spaced-size s n v e
argument-size tag.Name name s n v e = spaced-size s n v e
argument-size tag.Date date s n v e = spaced-size s n v e
argument-size t o s n v e = elim o [ ]

line-size : (t : Tag) → OfText t → (l : List ℕ) (n v : ℕ) → line_at l ≡ good_line t n v → n ≡ length (name_of t) + (v + 3)
unfolding line_at
line-size t o l n v e = go (tag_at l) e
  where
    with_tag_lem : (u : Tag) (a : Option Argument) → argument_after u (drop (length (name_of u)) l) ≡ a → with_argument u a ≡ good_line t n v
        → n ≡ length (name_of t) + (v + 3)
    with_tag_lem u None h r = none-line r
    with_tag_lem u (Some a) h r =
        let same = line-once r in
        let more = argument-size u (subst OfText (sym same.0) o) (drop (length (name_of u)) l) a.len a.value h in
        let long : length (name_of u) ≡ length (name_of t) = rw same.0 in
        omega (arith, more, long, same.1, same.2)

    go : (x : Option Tag) → with_tag l x ≡ good_line t n v → n ≡ length (name_of t) + (v + 3)
    go None r = none-line r
    go (Some u) r = with_tag_lem u (argument_after u (drop (length (name_of u)) l)) refl r

-- A text lies in its line, after the tag's name, a space and a quote.
pub line-text : (t : Tag) → OfText t → (l : List ℕ) (n v : ℕ) → entry_of l ≡ good_line t n v → length (name_of t) + 2 + v ≤ length l
line-text t o l n v e = go (line_at l) refl e
  where
    go : (x : Option Line) → line_at l ≡ x → whole (length l) x ≡ good_line t n v → length (name_of t) + 2 + v ≤ length l
    go None q r = none-line r
    go (Some m) q r =
        cases (eqb m.len (length l))
        (λ k.
        let same = q ∙ rw k at r in
        omega (arith, line-size t o l n v same, (line-within l t n v same).1))
        (λ k. none-line (rw k at r))

module _ (t : Tag) (o : OfText t) (f : List ℕ) where
  -- the bytes of a text in a file and in its line, where the line stands at a place of the file
  text-placed : (at : ℕ) (l s : List ℕ) → drop at f ≡ l ++ s → is_of t (entry_of l) ≡ true
      → text_bytes f (stated_by at (entry_of l)) ≡ line_text l
  text-placed at l s e = go (entry_of l) refl
    where
      go : (x : Option Line) → entry_of l ≡ x → is_of t x ≡ true → text_bytes f (stated_by at x) ≡ text_bytes l (stated_by 0 x)
      go None q h = refl
      go (Some k) q h =
          let u = k.tag in
          let v = k.value in
          let same = index-once u t (eqb-true (index_of u) (index_of t) h) in
          let skipped = length (name_of u) + 2 in
          let inside = line-text u (subst OfText (sym same) o) l k.len v q in
          let sum : at + length (name_of u) + 2 ≡ at + skipped = omega arith in
          let none : 0 + length (name_of u) + 2 ≡ skipped = omega arith in
          let left : v ≤ length (drop skipped l) = simp length-drop (omega arith) in
          rw (sum, none, ← drop-drop skipped at f, e, drop-append-le skipped l s (omega arith), take-append-le v (drop skipped l) s left)

  -- The bytes of a text in a file are those in its line.
  pub texts_placed : (q : List ℕ) (at : ℕ) (ls : List (List ℕ)) → drop at f ≡ closed ls q → (n : ℕ)
      → text_bytes f (nth_of t n (placed at ls)) ≡ line_text (line_of t n (placed at ls))
  unfolding nth_of line_of
  texts_placed q at [] e n = rw entry_none
  texts_placed q at (l ∷ ls) e n = choose n (texts_placed q (at + length l + 2) ls next)
    where
      next : drop (at + length l + 2) f ≡ closed ls q
      next =
          let sum : at + length l + 2 ≡ at + (length l + 2) = omega arith in
          ap (λ (k : ℕ). drop k f) sum
          ∙ sym (drop-drop (length l + 2) at f)
          ∙ ap (drop (length l + 2)) e
          ∙ drop-append-add l (0x0D ∷ 0x0A ∷ closed ls q) 2

      choose : (n : ℕ)
          → ((k : ℕ) → text_bytes f (nth_of t k (placed (at + length l + 2) ls)) ≡ line_text (line_of t k (placed (at + length l + 2) ls)))
          → text_bytes f (nth_of t n (placed at (l ∷ ls))) ≡ line_text (line_of t n (placed at (l ∷ ls)))
      choose zero later =
          cases (is_of t (entry_of l)) (λ h. rw h (text-placed at l (0x0D ∷ 0x0A ∷ closed ls q) e h)) (λ h. rw h (later zero))
      choose (suc n) later = cases (is_of t (entry_of l)) (λ h. rw h (later n)) (λ h. rw h (later (suc n)))
