-- Lines taken one by one give what each tag states by its name. Assumes nothing.
-- count_append, bad_append   lines in two parts
-- nth_last       the line of a tag by its number, of lines with one more at the end
-- some-stated    a tag is absent where no line is of it
-- kept-cells, left-cells   the cells with one more line
-- Once, once-again, twice-again   'No tag but TIME comes twice'
-- named          the law
use Prim.Native.Nat.{ℕ, zero, suc, ◌+◌, ◌≤◌, ◌<◌}
use mathlib.Core.Path.{◌≡◌, refl, sym, ap, subst, ◌∙◌}
use mathlib.Core.Bool.{Bool, true, false, false≢true, cond, not, ◌&&◌}
use mathlib.Core.List.{List, [], ◌∷◌, ◌++◌, append_assoc, append-nil}
use native.Mathlib.Omega.{arith}
use lib.ListN.{length, get_or, set}
use Rattle.std.specs.Prelude.{Option, Some, None}
use Rattle.std.specs.Option.{is_some}
use lib.Dec.{ltb, eqb}
use borrow.Author.Tests.{eqb-true, eqb-false, eq-eqb, ne_eqb, le-ltb, lt-ltb}
use Rattle.logic.specs.Cases.{cases}
use Rattle.saptags.specs.declared.Tag.{Tag}
use Rattle.saptags.specs.declared.Tag.TheVariants as tag
use Rattle.saptags.specs.Tags.{index_of}
use Rattle.saptags.specs.Laws.{index-once}
use Rattle.saplines.specs.declared.Line.{Line}
use Rattle.saptext.specs.Text.{StoredLine}
use Rattle.saptext.specs.Text.Text.{ended}
use Rattle.saptext.specs.Stated.{entry_of, is_bad, is_of, tagged, one_more, count_of, any_bad, once_tags, any_twice, again, stated_by, nth_of}
use Rattle.saptext.specs.declared.Stated.{Stated}
use Rattle.saptext.specs.Reading.{which_of, cells_of, counts, text_read}
use Rattle.saptext.specs.Laws.{cell_at}
use Rattle.saptext.proofs.Running.{Cells, noted, timed, step_with, run_lines, lines-bad}
use Rattle.saptext.proofs.Running.Step.{kept}

pub count_append : (t : Tag) (ls ks : List StoredLine) → count_of t (ls ++ ks) ≡ count_of t ls + count_of t ks
count_append t [] ks = omega arith
count_append t (l ∷ ls) ks =
    let later = count_append t ls ks in cases (tagged t l) (λ e. rw e (omega arith)) (λ e. rw e later)

pub bad_append : (ls : List StoredLine) (l : StoredLine) (ks : List StoredLine) → is_bad (entry_of l.bytes) ≡ true → any_bad (ls ++ l ∷ ks) ≡ true
bad_append [] l ks e = rw e
bad_append (k ∷ ls) l ks e = cases (is_bad (entry_of k.bytes)) (λ b. rw b) (λ b. rw b (bad_append ls l ks e))

pub fine_append : (ls : List StoredLine) (l : StoredLine) → any_bad ls ≡ false → is_bad (entry_of l.bytes) ≡ false → any_bad (ls ++ l ∷ []) ≡ false
fine_append [] l f e = rw e
fine_append (k ∷ ls) l f e =
    cases (is_bad (entry_of k.bytes)) (λ b. absurd (false≢true (sym (rw b at f)))) (λ b. rw b (fine_append ls l (rw b at f) e))

module _ (t : Tag) (l : StoredLine) where
  -- The line of a tag by its number, of lines with one more at the end.
  pub nth_last : (n : ℕ) (ls : List StoredLine)
      → nth_of t n (ls ++ l ∷ []) ≡ cond (tagged t l && eqb (count_of t ls) n) (stated_by l.from (entry_of l.bytes)) (nth_of t n ls)
  unfolding nth_of
  nth_last zero [] = cases (tagged t l) (λ e. rw e) (λ e. rw e)
  nth_last (suc n) [] = cases (tagged t l) (λ e. rw (e, ne_eqb 0 (suc n) (λ q. omega arith))) (λ e. rw e)
  nth_last zero (k ∷ ls) =
      cases (tagged t k)
      (λ e. rw (e, ne_eqb (1 + count_of t ls) 0 (λ q. omega arith)) (cases (tagged t l) (λ d. rw d) (λ d. rw d)))
      (λ e. rw e (nth_last zero ls))
  nth_last (suc n) (k ∷ ls) =
      cases (tagged t k) (λ e. rw (e, same (count_of t ls) n) (nth_last n ls)) (λ e. rw e (nth_last (suc n) ls))
    where
      same : (a b : ℕ) → eqb (1 + a) (suc b) ≡ eqb a b
      same a b =
          cases (eqb a b) (λ e. rw e (eq-eqb (1 + a) (suc b) (omega (arith, eqb-true a b e))))
          (λ e. rw e (ne_eqb (1 + a) (suc b) (λ q. eqb-false a b e (omega arith))))

-- what a line of a tag states is there
stated-some : (t : Tag) (from : ℕ) (e : Option Line) → is_of t e ≡ true → is_some (stated_by from e) ≡ true
stated-some t from None h = absurd (false≢true h)
stated-some t from (Some k) h = refl

-- A tag is absent exactly where no line is of it.
pub some-stated : (t : Tag) (ls : List StoredLine) → is_some (nth_of t 0 ls) ≡ not (eqb (count_of t ls) 0)
unfolding nth_of
some-stated t [] = refl
some-stated t (l ∷ ls) =
    cases (tagged t l)
    (λ e. rw (e, stated-some t l.from (entry_of l.bytes) e, ne_eqb (1 + count_of t ls) 0 (λ q. omega arith)))
    (λ e. rw e (some-stated t ls))

-- the cells with another value in one of them
abbrev changed : {A : Type 0} → Tag → A → (Tag → A) → Tag → A
changed t x g u = cond (eqb (index_of t) (index_of u)) x (g u)

cell_set : {A : Type 0} (g : Tag → A) (x : A) (t : Tag) → set (cells_of g) (index_of t) x ≡ cells_of (changed t x g)
cell_set g x tag.Author = refl
cell_set g x tag.Name = refl
cell_set g x tag.Date = refl
cell_set g x tag.Songs = refl
cell_set g x tag.DefSong = refl
cell_set g x tag.Stereo = refl
cell_set g x tag.Ntsc = refl
cell_set g x tag.Type = refl
cell_set g x tag.FastPlay = refl
cell_set g x tag.Init = refl
cell_set g x tag.Music = refl
cell_set g x tag.Player = refl
cell_set g x tag.Covox = refl
cell_set g x tag.Time = refl

cells_same : {A : Type 0} (g h : Tag → A) → ((t : Tag) → g t ≡ h t) → cells_of g ≡ cells_of h
cells_same g h e = ap cells_of (λ i t. e t i)

module _ (song : ℕ) (ls : List StoredLine) (l : StoredLine) (k : Line) (e : entry_of l.bytes ≡ Some k) where
  abbrev cells_before : List (Option Stated)
  cells_before = cells_of (counts song ls)

  abbrev cells_after : List (Option Stated)
  cells_after = cells_of (counts song (ls ++ l ∷ []))

  abbrev this : Option Stated
  this = stated_by l.from (Some k)

  -- A line that counts for its tag has its cell.
  pub kept-cells : count_of k.tag ls ≡ which_of song k.tag → set cells_before (index_of k.tag) this ≡ cells_after
  kept-cells c = cell_set (counts song ls) this k.tag ∙ cells_same (changed k.tag this (counts song ls)) (counts song (ls ++ l ∷ [])) each
    where
      each : (u : Tag) → changed k.tag this (counts song ls) u ≡ counts song (ls ++ l ∷ []) u
      each u =
          rw (nth_last u l (which_of song u) ls, e)
          (cases (eqb (index_of k.tag) (index_of u))
          (λ q.
          let same = index-once k.tag u (eqb-true (index_of k.tag) (index_of u) q) in
          rw (q, eq-eqb (count_of u ls) (which_of song u) (subst (λ (w : Tag). count_of w ls ≡ which_of song w) same c)))
          (λ q. rw q))

  -- A line that does not count for its tag changes no cell.
  pub left-cells : (count_of k.tag ls ≡ which_of song k.tag → ⊥) → cells_before ≡ cells_after
  left-cells c = cells_same (counts song ls) (counts song (ls ++ l ∷ [])) each
    where
      each : (u : Tag) → counts song ls u ≡ counts song (ls ++ l ∷ []) u
      each u =
          rw (nth_last u l (which_of song u) ls, e)
          (cases (eqb (index_of k.tag) (index_of u))
          (λ q.
          let same = index-once k.tag u (eqb-true (index_of k.tag) (index_of u) q) in
          rw (q, ne_eqb (count_of u ls) (which_of song u) (λ d. c (subst (λ (w : Tag). count_of w ls ≡ which_of song w) (sym same) d))))
          (λ q. rw q))

abbrev pub Once : List StoredLine → Type 0
Once ls = (t : Tag) → eqb (index_of t) 13 ≡ false → count_of t ls ≤ 1

-- every tag but TIME, at the place of its number
once_at : (t : Tag) → eqb (index_of t) 13 ≡ false → (get_or once_tags (index_of t) tag.Author ≡ t) × (index_of t < 13)
once_at tag.Author e = (refl, omega arith)
once_at tag.Name e = (refl, omega arith)
once_at tag.Date e = (refl, omega arith)
once_at tag.Songs e = (refl, omega arith)
once_at tag.DefSong e = (refl, omega arith)
once_at tag.Stereo e = (refl, omega arith)
once_at tag.Ntsc e = (refl, omega arith)
once_at tag.Type e = (refl, omega arith)
once_at tag.FastPlay e = (refl, omega arith)
once_at tag.Init e = (refl, omega arith)
once_at tag.Music e = (refl, omega arith)
once_at tag.Player e = (refl, omega arith)
once_at tag.Covox e = (refl, omega arith)
once_at tag.Time e = absurd (false≢true (sym e))

twice_at : (ts : List Tag) (k : ℕ) (ls : List StoredLine) → k < length ts → ltb 1 (count_of (get_or ts k tag.Author) ls) ≡ true → any_twice ts ls ≡ true
twice_at [] k ls h e = absurd (omega arith)
twice_at (t ∷ ts) zero ls h e = rw e
twice_at (t ∷ ts) (suc k) ls h e = cases (ltb 1 (count_of t ls)) (λ q. rw q) (λ q. rw q (twice_at ts k ls (omega arith) e))

-- A tag but TIME that two lines are of comes again.
pub twice-again : (t : Tag) (ls : List StoredLine) → eqb (index_of t) 13 ≡ false → 1 < count_of t ls → again ls ≡ true
twice-again t ls e h =
    let o = once_at t e in
    twice_at once_tags (index_of t) ls o.1 (rw o.0 (lt-ltb 1 (count_of t ls) h))

-- Where no tag but TIME is of two lines, none comes again.
pub once-again : (ls : List StoredLine) → Once ls → again ls ≡ false
once-again ls h = rw (each tag.Author refl, each tag.Name refl, each tag.Date refl, each tag.Songs refl, each tag.DefSong refl, each tag.Stereo refl, each tag.Ntsc refl, each tag.Type refl, each tag.FastPlay refl, each tag.Init refl, each tag.Music refl, each tag.Player refl, each tag.Covox refl)
  where
    each : (t : Tag) → eqb (index_of t) 13 ≡ false → ltb 1 (count_of t ls) ≡ false
    each t e = le-ltb 1 (count_of t ls) (h t e)

module _ (song : ℕ) where
  -- the cells of lines
  abbrev pub cells_for : List StoredLine → Cells
  cells_for ls = record { cells = cells_of (counts song ls); times = count_of tag.Time ls }

  -- the cells of lines with one more, which counts or does not
  abbrev More : List StoredLine → StoredLine → Cells → Type 0
  More ls l c = c ≡ cells_for (ls ++ l ∷ [])

  times_more : (ls : List StoredLine) (l : StoredLine) (k : Line) → entry_of l.bytes ≡ Some k
      → count_of tag.Time (ls ++ l ∷ []) ≡ one_more (eqb (index_of k.tag) 13) 0 + count_of tag.Time ls
  times_more ls l k e = count_append tag.Time ls (l ∷ []) ∙ rw e (omega arith)

  module _ (ls : List StoredLine) (l : StoredLine) (k : Line) (e : entry_of l.bytes ≡ Some k) where
    abbrev t : Tag
    t = k.tag

    abbrev states : Option Stated
    states = stated_by l.from (Some k)

    noted_more : count_of t ls ≡ which_of song t → (times : ℕ) → times ≡ count_of tag.Time (ls ++ l ∷ []) → More ls l (noted (cells_for ls) times (index_of t) states)
    noted_more c times is = λ i.
        record { cells = kept-cells song ls l k e c i; times = is i }

    timed-more : eqb (index_of t) 13 ≡ true → More ls l (timed song (cells_for ls) states)
    timed-more q =
        let number = eqb-true (index_of t) 13 q in
        let time : t ≡ tag.Time = index-once t tag.Time number in
        let count : count_of tag.Time ls ≡ count_of t ls = ap (λ (u : Tag). count_of u ls) (sym time) in
        let which : which_of song t ≡ song = rw q in
        let more : count_of tag.Time ls + 1 ≡ count_of tag.Time (ls ++ l ∷ []) = omega (arith, times_more ls l k e, ap (λ (b : Bool). one_more b 0) q) in
        cases (eqb (count_of tag.Time ls) song)
        (λ c.
        rw c
        (ap (λ (i : ℕ). noted (cells_for ls) (count_of tag.Time ls + 1) i states) (sym number)
        ∙ noted_more (omega (arith, count, which, eqb-true (count_of tag.Time ls) song c)) (count_of tag.Time ls + 1) more))
        (λ c.
        let other : count_of t ls ≡ which_of song t → ⊥ = λ d. eqb-false (count_of tag.Time ls) song c (count ∙ d ∙ which) in
        rw c (λ i. record { cells = left-cells song ls l k e other i; times = more i }))

    -- no tag but TIME is of two lines
    once_more : Once ls → (eqb (index_of t) 13 ≡ false → count_of t ls ≡ 0) → Once (ls ++ l ∷ [])
    once_more o z u h =
        rw (count_append u ls (l ∷ []), e)
        (cases (eqb (index_of t) (index_of u))
        (λ q.
        let same = index-once t u (eqb-true (index_of t) (index_of u) q) in
        rw q (omega (arith, subst (λ (w : Tag). eqb (index_of w) 13 ≡ false → count_of w ls ≡ 0) same z h)))
        (λ q. rw q (omega (arith, o u h))))

    -- a line of a tag, taken after the others
    take-line : (ks : List StoredLine) (end : ℕ) → any_bad ls ≡ false → Once ls
        → (any_bad (ls ++ l ∷ []) ≡ false → Once (ls ++ l ∷ []) → run_lines song (kept (cells_for (ls ++ l ∷ []))) ks end ≡ text_read song (ended ((ls ++ l ∷ []) ++ ks) end))
        → run_lines song (step_with song (cells_for ls) l.from (Some k)) ks end ≡ text_read song (ended (ls ++ l ∷ ks) end)
    take-line ks end fine once on =
        cases (eqb (index_of t) 13)
        (λ q. rw q (carry (timed song (cells_for ls) states) (timed-more q) (once_more once (λ d. absurd (false≢true (sym d ∙ q))))))
        (λ q.
        let cell : get_or (cells_of (counts song ls)) (index_of t) None ≡ nth_of t 0 ls = cell_at (counts song ls) None t ∙ rw q in
        rw (q, cell, some-stated t ls)
        (cases (eqb (count_of t ls) 0)
        (λ z.
        let none = eqb-true (count_of t ls) 0 z in
        let which : which_of song t ≡ 0 = rw q in
        let more : count_of tag.Time ls ≡ count_of tag.Time (ls ++ l ∷ []) = omega (arith, times_more ls l k e, ap (λ (b : Bool). one_more b 0) q) in
        rw z (carry (noted (cells_for ls) (count_of tag.Time ls) (index_of t) states) (noted_more (omega (arith, none, which)) (count_of tag.Time ls) more) (once_more once (λ d. none))))
        (λ z. rw z (lines-bad song ks end ∙ sym (refused q z)))))
      where
        carry : (c : Cells) → More ls l c → Once (ls ++ l ∷ []) → run_lines song (kept c) ks end ≡ text_read song (ended (ls ++ l ∷ ks) end)
        carry c more o =
            ap (λ (d : Cells). run_lines song (kept d) ks end) more
            ∙ on (fine_append ls l fine (rw e)) o
            ∙ ap (λ (m : List StoredLine). text_read song (ended m end)) (append_assoc ls (l ∷ []) ks)

        refused : eqb (index_of t) 13 ≡ false → eqb (count_of t ls) 0 ≡ false → text_read song (ended (ls ++ l ∷ ks) end) ≡ None
        refused q z =
            let this : count_of t (l ∷ ks) ≡ 1 + count_of t ks = rw (e, eq-eqb (index_of t) (index_of t) refl) in
            let some : 1 < count_of t (ls ++ l ∷ ks) = omega (arith, count_append t ls (l ∷ ks), this, eqb-false (count_of t ls) 0 z) in
            rw (twice-again t (ls ++ l ∷ ks) q some) (cases (any_bad (ls ++ l ∷ ks)) (λ b. rw b) (λ b. rw b))

  -- Lines taken one by one, after lines that are good and of which no tag but TIME comes twice.
  pub named : (ls ks : List StoredLine) (end : ℕ) → any_bad ls ≡ false → Once ls
      → run_lines song (kept (cells_for ls)) ks end ≡ text_read song (ended (ls ++ ks) end)
  named ls [] end fine once = rw (append-nil ls, fine, once-again ls once)
  named ls (l ∷ ks) end fine once = go (named (ls ++ l ∷ []) ks end) (entry_of l.bytes) refl
    where
      go : (any_bad (ls ++ l ∷ []) ≡ false → Once (ls ++ l ∷ []) → run_lines song (kept (cells_for (ls ++ l ∷ []))) ks end ≡ text_read song (ended ((ls ++ l ∷ []) ++ ks) end))
          → (x : Option Line) → entry_of l.bytes ≡ x → run_lines song (step_with song (cells_for ls) l.from x) ks end ≡ text_read song (ended (ls ++ l ∷ ks) end)
      go on None e = rw (bad_append ls l ks (rw e)) (lines-bad song ks end)
      go on (Some k) e = take-line ls l k e ks end fine once on
