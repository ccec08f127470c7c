-- Laws of what the lines of a header state, and of what reading them gives.
-- cell_at        a cell by its tag's number
-- nth_restated   what the line of a tag states is told by its place and its value
-- nth_most       its value is at most what the tag allows
-- Known          what is known of lines that were read
-- read_known     so where reading answers cells
-- read-spoilt    where it answers none, the lines are bad
use Rattle.std.specs.Prelude.{Option, Some, None, ℕ, zero, suc, ◌+◌, ◌≤◌, ◌≡◌, refl, true, false, List, [], ◌∷◌, length, get_or, eqb}
use Rattle.std.proofs.Common.{sym, ap, arith, eqb-true, ne_eqb}
use Rattle.std.proofs.lemmas.Bool.{false≢true}
use Rattle.logic.specs.Cases.{cases}
use Rattle.saptags.specs.declared.Tag.{Tag}
use Rattle.saptags.specs.declared.Tag.TheVariants as tag
use Rattle.saptags.specs.Tags.{name_of, index_of}
use Rattle.saptags.specs.Laws.{index-once}
use Rattle.saplines.specs.declared.Line.{Line}
use Rattle.saplines.specs.Lines.{line_at}
use Rattle.saplines.specs.Laws.{most_of, line-most}
use Rattle.saptext.specs.declared.Lines.{Lines}
use Rattle.saptext.specs.Text.{StoredLine, Text}
use Rattle.saptext.specs.Text.Text.{unended, ended}
use Rattle.saptext.specs.Stated.{whole, entry_of, is_of, tagged, count_of, bad_lines, stated_by, nth_of, bad_text}
use Rattle.saptext.specs.Reading.{place_of, value_of, cells_of, counts, state_of, text_read}

-- The cell at a tag's number is the tag's.
pub cell_at : {A : Type 0} (g : Tag → A) (d : A) (t : Tag) → get_or (cells_of g) (index_of t) d ≡ g t
cell_at g d tag.Author = refl
cell_at g d tag.Name = refl
cell_at g d tag.Date = refl
cell_at g d tag.Songs = refl
cell_at g d tag.DefSong = refl
cell_at g d tag.Stereo = refl
cell_at g d tag.Ntsc = refl
cell_at g d tag.Type = refl
cell_at g d tag.FastPlay = refl
cell_at g d tag.Init = refl
cell_at g d tag.Music = refl
cell_at g d tag.Player = refl
cell_at g d tag.Covox = refl
cell_at g d tag.Time = refl

-- a line states a place above 0
line_restated : (from : ℕ) (e : Option Line) → state_of (place_of (stated_by from e)) (value_of (stated_by from e)) ≡ stated_by from e
line_restated from None = refl
line_restated from (Some k) = rw (ne_eqb (from + length (name_of k.tag) + 2) 0 (λ q. omega arith))

-- What the line of a tag states is told by its place and its value.
pub nth_restated : (t : Tag) (n : ℕ) (ls : List StoredLine) → state_of (place_of (nth_of t n ls)) (value_of (nth_of t n ls)) ≡ nth_of t n ls
unfolding nth_of
nth_restated t n [] = refl
nth_restated t zero (l ∷ ls) = cases (tagged t l) (λ e. rw e (line_restated l.from (entry_of l.bytes))) (λ e. rw e (nth_restated t zero ls))
nth_restated t (suc n) (l ∷ ls) = cases (tagged t l) (λ e. rw e (nth_restated t n ls)) (λ e. rw e (nth_restated t (suc n) ls))

-- a line of a tag has a value that the tag allows
entry-most : (t : Tag) (from : ℕ) (l : List ℕ) → is_of t (entry_of l) ≡ true → value_of (stated_by from (entry_of l)) ≤ most_of t
entry-most t from l e = go (line_at l) refl e
  where
    go : (x : Option Line) → line_at l ≡ x → is_of t (whole (length l) x) ≡ true → value_of (stated_by from (whole (length l) x)) ≤ most_of t
    go None q h = absurd (false≢true h)
    go (Some k) q h =
        cases (eqb k.len (length l))
        (λ p.
        let same = index-once k.tag t (eqb-true (index_of k.tag) (index_of t) (rw p at h)) in
        rw p (omega (arith, line-most l k.tag k.len k.value q, ap most_of same)))
        (λ p. absurd (false≢true (rw p at h)))

-- The value that the line of a tag states is at most what the tag allows.
pub nth_most : (t : Tag) (n : ℕ) (ls : List StoredLine) → value_of (nth_of t n ls) ≤ most_of t
unfolding nth_of
nth_most t n [] = omega arith
nth_most t zero (l ∷ ls) = cases (tagged t l) (λ e. rw e (entry-most t l.from l.bytes e)) (λ e. rw e (nth_most t zero ls))
nth_most t (suc n) (l ∷ ls) = cases (tagged t l) (λ e. rw e (nth_most t n ls)) (λ e. rw e (nth_most t (suc n) ls))

pub record Known (song : ℕ) (t : Text) (x : Lines) : Type 0 where
  pub lines : List StoredLine
  pub text : t ≡ ended lines x.end
  pub fine : bad_lines lines ≡ false
  pub cells : x.cells ≡ cells_of (counts song lines)
  pub times : x.times ≡ count_of tag.Time lines

-- an answer is one
none-some : {A : Type 0} {x : Lines} → None ≡ Some x → A
none-some e = absurd (let z : ◌≡◌ {A = ℕ} 0 1 = cc in omega arith)

-- Where reading a text answers cells, the text is ended, its lines are good, and the cells are theirs.
pub read_known : (song : ℕ) (t : Text) (x : Lines) → Some x ≡ text_read song t → Known song t x
read_known song unended x r = none-some (sym r)
read_known song (ended ls end) x r =
    cases (bad_lines ls) (λ b. none-some (sym (rw b at r)))
    (λ b.
    let q = rw b at r in
    let same : ◌≡◌ {A = Lines} x (record { end = end; times = count_of tag.Time ls; cells = cells_of (counts song ls) }) = cc in
    record {
      lines = ls;
      text = ap (ended ls) (sym (ap (λ (y : Lines). y.end) same));
      fine = b;
      cells = ap (λ (y : Lines). y.cells) same;
      times = ap (λ (y : Lines). y.times) same;
    })

-- Where it answers none, the text is not ended or its lines are bad.
pub read-spoilt : (song : ℕ) (t : Text) → None ≡ text_read song t → bad_text t ≡ true
read-spoilt song unended r = refl
read-spoilt song (ended ls end) r = cases (bad_lines ls) (λ b. b) (λ b. none-some (rw b at r))
