-- The text from a place on, by what stands there. Assumes nothing.
-- text_marked    FF FF: the text ends
-- text-past      the file's end: the text is not ended
-- text-good      a good line: it is the first, and the others are those of the text from the next place on
-- text-bad       anything else: nothing is read
-- line-inside    a line lies in the file, and its tag's name in it
use Prim.Native.Nat.{ℕ, ◌+◌, ◌-◌, ◌≤◌, ◌<◌}
use mathlib.Core.Path.{◌≡◌, refl, sym, ap, ◌∙◌}
use mathlib.Core.Bool.{true, false}
use mathlib.Core.List.{List, [], ◌∷◌}
use mathlib.Core.Logic.{◌⊎◌, inl, inr}
use native.Mathlib.Omega.{arith}
use lib.ListN.{length, drop, length-drop, drop_of_length-le}
use lib.Seq.{drop-drop, drop-append_seam, drop-append-add}
use lib.Dec.{eqb}
use borrow.Author.Tests.{eq-eqb, eqb-true}
use Rattle.logic.specs.Cases.{cases}
use Rattle.characters.specs.Characters.{stands}
use Rattle.saptags.specs.Tags.{name_of, index_of}
use Rattle.sapblocks.specs.Blocks.{marker}
use Rattle.saplines.specs.declared.Line.{Line}
use Rattle.saplines.specs.Lines.{line_at}
use Rattle.saplines.specs.Laws.{line_stop, line-within}
use Rattle.std.specs.Prelude.{Option, Some, None}
use Rattle.saptext.specs.declared.Entry.{Entry}
use Rattle.saptext.specs.Text.{cut, with_line, text_from, text_on}
use Rattle.saptext.specs.Text.Text.{unended, ended}
use Rattle.saptext.specs.Stated.{whole, entry_of}
use Rattle.saptext.specs.Reading.{line_end, closed_at, entry_at}
use Rattle.saptext.proofs.Cutting.{Closed, pieces_of, first-cut, marker-first}
use Rattle.saptext.proofs.Running.{Cells, step_to, run, run-line, run-bad}
use Rattle.saptext.proofs.Running.Step.{kept}

module _ (f : List ℕ) (at : ℕ) where
  piece : List ℕ
  piece = (cut (drop at f)).first

  pub text_marked : marker (drop at f) ≡ true → text_on f at ≡ ended [] at
  unfolding text_from
  text_marked e = go (cut (drop at f)).later
    where
      go : (ks : List (List ℕ)) → text_from at (cut (drop at f)).first ks ≡ ended [] at
      go [] = rw (marker-first (drop at f), e)
      go (k ∷ ks) = rw (marker-first (drop at f), e)

  pub text-past : length f ≤ at → text_on f at ≡ unended
  unfolding cut text_from
  text-past h = rw (drop_of_length-le f h)

  -- what follows a piece that is closed
  rest : (c : Closed (drop at f)) (next : ℕ) → next ≡ at + (length (cut (drop at f)).first + 2) → drop next f ≡ c.after
  rest c next e =
      let p = (cut (drop at f)).first in
      ap (λ (k : ℕ). drop k f) e
      ∙ sym (drop-drop (length p + 2) at f)
      ∙ ap (drop (length p + 2)) c.bytes
      ∙ drop-append-add p (0x0D ∷ 0x0A ∷ c.after) 2

  -- CR LF closes it
  closer : (c : Closed (drop at f)) (n : ℕ) → n ≡ length (cut (drop at f)).first → stands line_end (drop (at + n) f) ≡ true
  unfolding stands
  closer c n e =
      let p = (cut (drop at f)).first in
      let here : drop (at + n) f ≡ 0x0D ∷ 0x0A ∷ c.after = sym (drop-drop n at f) ∙ ap (λ (k : ℕ). drop k (drop at f)) e ∙ ap (drop (length p)) c.bytes ∙ drop-append_seam p (0x0D ∷ 0x0A ∷ c.after) in
      rw here

  -- the line of a piece that is closed is the one at the place
  piece-line : (c : Closed (drop at f)) → line_at (cut (drop at f)).first ≡ line_at (drop at f)
  piece-line c =
      let p = (cut (drop at f)).first in
      sym (ap line_at c.bytes ∙ line_stop (0x0A ∷ c.after) p)

  module _ (unmarked : marker (drop at f) ≡ false) where
    -- one piece alone
    text-alone : (cut (drop at f)).later ≡ [] → text_on f at ≡ unended
    unfolding text_from
    text-alone e = rw (e, marker-first (drop at f), unmarked)

    -- a piece that is closed, and the text after it
    text-closed : (c : Closed (drop at f)) → (next : ℕ) → next ≡ at + length (cut (drop at f)).first + 2
        → text_on f at ≡ with_line (record { from = at; bytes = (cut (drop at f)).first }) (text_on f next)
    unfolding text_from
    text-closed c next e =
        let p = (cut (drop at f)).first in
        let later : drop next f ≡ c.after = rest c next (e ∙ sum) in
        rw (c.others, marker-first (drop at f), unmarked, ← e, later)
      where
        sum : at + length (cut (drop at f)).first + 2 ≡ at + (length (cut (drop at f)).first + 2)
        sum = omega arith

    module _ (song : ℕ) (cells : Cells) where
      pub text-good : (x : Entry) → entry_at f at ≡ Some x
          → run song (kept cells) (text_on f at) ≡ run song (step_to song cells (index_of x.tag) (Some x.stated)) (text_on f x.next)
      unfolding entry_at
      text-good x e = go (line_at (drop at f)) refl e
        where
          read-on : (k : Line) → line_at (drop at f) ≡ Some k → stands line_end (drop k.len (drop at f)) ≡ true
              → run song (kept cells) (text_on f at) ≡ run song (step_to song cells (index_of k.tag) (Some (record { place = at + length (name_of k.tag) + 2; value = k.value }))) (text_on f (at + k.len + 2))
          read-on k q h =
              let p = (cut (drop at f)).first in
              let two = first-cut k.len (drop at f) h in
              let same = piece-line two.0 ∙ q in
              let len : k.len ≡ length p = omega (arith, two.1, (line-within p k.tag k.len k.value same).1) in
              let is : entry_of p ≡ Some k = rw (same, eq-eqb k.len (length p) len) in
              ap (run song (kept cells)) (text-closed two.0 (at + k.len + 2) (omega (arith, len)))
              ∙ run-line song cells (record { from = at; bytes = p }) (text_on f (at + k.len + 2))
              ∙ rw is

          go : (l : Option Line) → line_at (drop at f) ≡ l → closed_at f at l ≡ Some x
              → run song (kept cells) (text_on f at) ≡ run song (step_to song cells (index_of x.tag) (Some x.stated)) (text_on f x.next)
          go None q r = absurd (let z : ◌≡◌ {A = ℕ} 0 1 = cc in omega arith)
          go (Some k) q r =
              cases (stands line_end (drop (at + k.len) f))
              (λ h.
              let same : ◌≡◌ {A = Entry} (record { tag = k.tag; stated = record { place = at + length (name_of k.tag) + 2; value = k.value }; next = at + k.len + 2 }) x = let s = rw h at r in cc in
              read-on k q (rw (drop-drop k.len at f) h) ∙ ap (λ (y : Entry). run song (step_to song cells (index_of y.tag) (Some y.stated)) (text_on f y.next)) same)
              (λ h. absurd (let s = rw h at r in let z : ◌≡◌ {A = ℕ} 0 1 = cc in omega arith))

      pub text-bad : entry_at f at ≡ None → run song (kept cells) (text_on f at) ≡ None
      unfolding entry_at
      text-bad e = go (pieces_of (drop at f))
        where
          piece-bad : (c : Closed (drop at f)) (l : Option Line) → line_at (drop at f) ≡ l → closed_at f at l ≡ None → whole (length (cut (drop at f)).first) l ≡ None
          piece-bad c None q r = refl
          piece-bad c (Some m) q r =
              let p = (cut (drop at f)).first in
              cases (eqb m.len (length p))
              (λ k. absurd (let s = rw (closer c m.len (eqb-true m.len (length p) k)) at r in let z : ◌≡◌ {A = ℕ} 0 1 = cc in omega arith))
              (λ k. rw k)

          go : ((cut (drop at f)).later ≡ []) ⊎ Closed (drop at f) → run song (kept cells) (text_on f at) ≡ None
          go (inl q) = rw (text-alone q)
          go (inr c) =
              let p = (cut (drop at f)).first in
              let is : entry_of p ≡ None = rw (piece-line c) (piece-bad c (line_at (drop at f)) refl e) in
              ap (run song (kept cells)) (text-closed c (at + length p + 2) refl)
              ∙ run-line song cells (record { from = at; bytes = p }) (text_on f (at + length p + 2))
              ∙ rw is (run-bad song (text_on f (at + length p + 2)))

-- a line lies in the file, and its tag's name in it
pub line-inside : (f s : List ℕ) (at : ℕ) (k : Line) → s ≡ drop at f → line_at s ≡ Some k → at < length f → (at + length (name_of k.tag) ≤ length f) × (at + k.len ≤ length f)
line-inside f s at k is e h =
    let within = line-within s k.tag k.len k.value e in
    let size : length s ≡ length f - at = ap length is ∙ length-drop at f in
    (omega (arith, within.0, within.1, size), omega (arith, within.1, size))
