-- What stands in the bytes of a line that fits.
-- leading-taken         the leading bytes are the first so many bytes
-- Quoted, text_quoted   AUTHOR, NAME and DATE: a quote, the text and a quote
-- decimal-number        a decimal below `most` is the number of all its digits
use Rattle.std.specs.Prelude.{Option, Some, None, ℕ, ◌+◌, ◌<◌, min, ◌≡◌, refl, Bool, cond, ◌&&◌, List, [], ◌∷◌, length, get_or, take, drop, leb}
use Rattle.std.proofs.Common.{sym, ap, subst, ◌∙◌, arith, drop-drop, eqb-true}
use Rattle.logic.specs.Cases.{cases}
use Rattle.logic.specs.Truth.{both}
use Rattle.characters.specs.Characters.{is_digit, is_text_character, leading, rest, begins, number_of, most, digits_of}
use Rattle.characters.specs.Laws.{byte-here, byte-later}
use Rattle.saptags.specs.declared.Tag.{Tag}
use Rattle.saptags.specs.declared.Tag.TheVariants as tag
use Rattle.saptags.specs.Tags.{name_of, tag_at}
use Rattle.saparguments.specs.declared.Argument.{Argument}
use Rattle.saparguments.specs.Arguments.{good, unpadded, decimal_at, text_at}
use Rattle.saparguments.specs.Laws.{good-once, none-good, good_if}
use Rattle.saplines.specs.Laws.{line-once, none-line}
use Rattle.saplines.specs.Lines.{good_line, spaced, argument_after, with_argument, with_tag, line_at}
use Rattle.saplaws.specs.Texts.{OfText}
use Rattle.saplaws.specs.Texts.OfText.{author, name, date}

-- The leading bytes are the first so many bytes.
pub leading-taken : (p : ℕ → Bool) (s : List ℕ) → take (length (leading p s)) s ≡ leading p s
unfolding leading
leading-taken p [] = refl
leading-taken p (b ∷ bs) = cases (p b) (λ e. rw e (ap (λ (l : List ℕ). b ∷ l) (leading-taken p bs))) (λ e. rw e)

-- after k bytes and one more: a quote, a text, which is all the v text characters there, and a quote
pub record Quoted (s : List ℕ) (k v : ℕ) : Type 0 where
  pub opened : get_or s (k + 1) 0 ≡ 0x22
  pub closed : get_or s (k + 2 + v) 0 ≡ 0x22
  pub bytes : take v (drop (k + 2) s) ≡ leading is_text_character (drop (k + 2) s)
  pub size : v ≡ length (leading is_text_character (drop (k + 2) s))

-- in the bytes from the first quote on
text_marks : (s : List ℕ) (n v : ℕ) → text_at s ≡ good n v
    → (get_or s 0 0 ≡ 0x22) × (get_or (drop v (drop 1 s)) 0 0 ≡ 0x22) × (v ≡ length (leading is_text_character (drop 1 s)))
text_marks s n v e =
    let k = length (leading is_text_character (drop 1 s)) in
    let opened = begins 0x22 s in
    let closed = begins 0x22 (rest is_text_character (drop 1 s)) in
    let g = good_if (opened && closed && leb k 120) (k + 2) k n v e in
    let marks = both opened closed (both (opened && closed) (leb k 120) g.0).0 in (
      eqb-true (get_or s 0 0) 0x22 marks.0,
      ap (λ (m : ℕ). get_or (drop m (drop 1 s)) 0 0) (sym g.2) ∙ eqb-true (get_or (drop k (drop 1 s)) 0 0) 0x22 marks.1,
      sym g.2,
    )

-- in a line, after k bytes and a space
spaced_quoted : (s : List ℕ) (k n v : ℕ)
    → cond (begins 0x20 (drop k s)) (spaced (text_at (drop 1 (drop k s)))) None ≡ good n v → Quoted s k v
spaced_quoted s k n v e =
    cases (begins 0x20 (drop k s)) (λ b. go (text_at (drop 1 (drop k s))) refl (rw b at e))
    (λ b. none-good n v (rw b at e))
  where
    here : drop 1 (drop k s) ≡ drop (k + 1) s
    here = drop-drop 1 k s

    text : drop 1 (drop 1 (drop k s)) ≡ drop (k + 2) s
    text =
        ap (drop 1) here
        ∙ drop-drop 1 (k + 1) s
        ∙ ap (λ (m : ℕ). drop m s) (let sum : k + 1 + 1 ≡ k + 2 = omega arith in sum)

    go : (a : Option Argument) → text_at (drop 1 (drop k s)) ≡ a → spaced a ≡ good n v → Quoted s k v
    go None q r = none-good n v r
    go (Some a) q r =
        let value = (good-once (a.len + 1) a.value n v r).1 in
        let marks = text_marks (drop 1 (drop k s)) a.len v (q ∙ ap (good a.len) value) in
        let size = marks.2 ∙ ap (λ (l : List ℕ). length (leading is_text_character l)) text in
        record {
          opened = sym (byte-here s (k + 1)) ∙ ap (λ (l : List ℕ). get_or l 0 0) (sym here) ∙ marks.0;
          closed = sym (byte-later s (k + 2) v) ∙ ap (λ (l : List ℕ). get_or (drop v l) 0 0) (sym text) ∙ marks.1;
          bytes =
              ap (λ (m : ℕ). take m (drop (k + 2) s)) size
              ∙ leading-taken is_text_character (drop (k + 2) s);
          size = size;
        }

-- after the name of each of the three tags
argument_quoted : (t : Tag) → OfText t → (s : List ℕ) (k n v : ℕ) → argument_after t (drop k s) ≡ good n v → Quoted s k v
unfolding argument_after
argument_quoted tag.Author author s k n v e = spaced_quoted s k n v e
argument_quoted tag.Name name s k n v e = spaced_quoted s k n v e
argument_quoted tag.Date date s k n v e = spaced_quoted s k n v e
argument_quoted t o s k n v e = elim o [ ]

-- In a line of AUTHOR, NAME or DATE that fits, a quote stands before the text and one after it, and the text
-- is all the text characters that follow the first.
pub text_quoted : (t : Tag) → OfText t → (s : List ℕ) (n v : ℕ) → line_at s ≡ good_line t n v → Quoted s (length (name_of t)) v
unfolding line_at
text_quoted t o s n v e = go (tag_at s) e
  where
    with_tag_lem : (u : Tag) (a : Option Argument) → argument_after u (drop (length (name_of u)) s) ≡ a → with_argument u a ≡ good_line t n v
        → Quoted s (length (name_of t)) v
    with_tag_lem u None h r = none-line r
    with_tag_lem u (Some a) h r =
        let same = line-once r in
        let found = argument_quoted u (subst OfText (sym same.0) o) s (length (name_of u)) a.len v (h ∙ ap (good a.len) same.2) in
        subst (λ (x : Tag). Quoted s (length (name_of x)) v) same.0 found

    go : (x : Option Tag) → with_tag s x ≡ good_line t n v → Quoted s (length (name_of t)) v
    go None r = none-line r
    go (Some u) r = with_tag_lem u (argument_after u (drop (length (name_of u)) s)) refl r

-- A decimal that fits and is below `most` is the number of all the digits that stand there.
pub decimal-number : (low high : ℕ) (s : List ℕ) (n v : ℕ) → decimal_at low high s ≡ good n v → v < most
    → v ≡ number_of 10 (leading (is_digit 10) s)
unfolding digits_of
decimal-number low high s n v e h =
    let d = digits_of 10 s in
    let g = good_if (unpadded d s && leb low d.value && leb d.value high) d.len d.value n v e in
    let is : min (number_of 10 (leading (is_digit 10) s)) most ≡ v = g.2 in
    omega arith
