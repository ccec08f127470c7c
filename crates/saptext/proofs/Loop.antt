-- The loop over the lines of a header. Assumes nothing.
-- Ongoing         what holds where a line begins: the cells so far, run on, give the whole
-- entry-facts     of a good line: its tag's number, and where the next line begins
-- time_is         a comparison with TIME, by the tag's number
-- start           so it holds at the first line
-- go-time, go-other, go-tag    so at the next line, by what the line is
-- end_marked, end-bad, end-twice, end-past   what is answered, by where the loop ends
use Prim.Native.Nat.{ℕ, ◌+◌, ◌≤◌, ◌<◌}
use mathlib.Core.Path.{◌≡◌, refl, sym, ap, ◌∙◌}
use mathlib.Core.Bool.{Bool, true, false}
use denote.Enum.Bare.{sameb}
use lib.Dec.{eqb}
use Rattle.saptags.specs.contracts.Tag.{the_type}
use mathlib.Core.List.{List, [], ◌∷◌}
use native.Mathlib.Omega.{arith}
use lib.ListN.{length, drop, get_or, set, length-set, length-drop}
use borrow.Author.Tests.{eq-eqb, ne_eqb}
use Rattle.logic.specs.Cases.{cases}
use Rattle.characters.specs.Characters.{stands}
use Rattle.characters.specs.Laws.{stands-long}
use Rattle.saptags.specs.Tags.{name_of, index_of}
use Rattle.sapblocks.specs.Blocks.{marker}
use Rattle.saplines.specs.declared.Line.{Line}
use Rattle.saplines.specs.Lines.{line_at}
use Rattle.std.specs.Prelude.{Option, Some, None}
use Rattle.std.specs.Option.{is_some}
use Rattle.saptags.specs.declared.Tag.{Tag}
use Rattle.saptext.specs.declared.Entry.{Entry}
use Rattle.saptext.specs.declared.Stated.{Stated}
use Rattle.saptext.specs.Text.{Text, text_on, text_in}
use Rattle.saptext.specs.Text.Text.{unended, ended}
use Rattle.saptext.specs.Stated.{nth_of}
use Rattle.saptext.specs.Reading.{line_end, closed_at, entry_at, text_read}
use Rattle.saptext.proofs.Running.{Cells, Step, step_to, run, run-bad}
use Rattle.saptext.proofs.Running.Step.{kept}
use Rattle.saptext.proofs.Standing.{text_marked, text-past, text-good, text-bad}
use Rattle.saptext.proofs.Named.{named}

-- a comparison with TIME, by the tag's number
pub time_is : (t : Tag) {b : Bool} → b ≡ sameb the_type t Tag.Time → b ≡ eqb (index_of t) 13
time_is Tag.Author e = e
time_is Tag.Name e = e
time_is Tag.Date e = e
time_is Tag.Songs e = e
time_is Tag.DefSong e = e
time_is Tag.Stereo e = e
time_is Tag.Ntsc e = e
time_is Tag.Type e = e
time_is Tag.FastPlay e = e
time_is Tag.Init e = e
time_is Tag.Music e = e
time_is Tag.Player e = e
time_is Tag.Covox e = e
time_is Tag.Time e = e

abbrev cells : List (Option Stated) → ℕ → Cells
cells c times = record { cells = c; times = times }

pub record Ongoing (f : List ℕ) (song : ℕ) (c : List (Option Stated)) (times at : ℕ) : Type 0 where
  pub long : length c ≡ 14
  pub few : times ≤ at
  pub whole : run song (kept (cells c times)) (text_on f at) ≡ text_read song (text_in f)

-- fourteen empty cells
abbrev pub empty : List (Option Stated)
empty = None ∷ None ∷ None ∷ None ∷ None ∷ None ∷ None ∷ None ∷ None ∷ None ∷ None ∷ None ∷ None ∷ None ∷ []

from_empty : (song : ℕ) (t : Text) → run song (kept (cells empty 0)) t ≡ text_read song t
unfolding nth_of
from_empty song unended = refl
from_empty song (ended ls end) = named song [] ls end refl (λ t e. omega arith)

pub start : (f : List ℕ) (song : ℕ) → Ongoing f song empty 0 5
start f song = record { long = refl; few = omega arith; whole = from_empty song (text_in f) }

-- Of a good line: the next line begins after it and in the file.
pub entry-facts : (f : List ℕ) (at : ℕ) (x : Entry) → at < length f → entry_at f at ≡ Some x → (at < x.next) × (x.next ≤ length f)
unfolding entry_at
entry-facts f at x h e = go (line_at (drop at f)) e
  where
    go : (l : Option Line) → closed_at f at l ≡ Some x → (at < x.next) × (x.next ≤ length f)
    go None r = absurd (let z : ◌≡◌ {A = ℕ} 0 1 = cc in omega arith)
    go (Some k) r =
        cases (stands line_end (drop (at + k.len) f))
        (λ h.
        let same : ◌≡◌ {A = Entry} (record { tag = k.tag; stated = record { place = at + length (name_of k.tag) + 2; value = k.value }; next = at + k.len + 2 }) x = let s = rw h at r in cc in
        let on : at + k.len + 2 ≡ x.next = ap (λ (y : Entry). y.next) same in
        (omega (arith, on), omega (arith, on, stands-long 0x0C [] line_end (refl, refl, (refl, refl, tt)) (drop (at + k.len) f) h, length-drop (at + k.len) f)))
        (λ h. absurd (let s = rw h at r in let z : ◌≡◌ {A = ℕ} 0 1 = cc in omega arith))

module _ {f : List ℕ} {song : ℕ} {c : List (Option Stated)} {times at : ℕ} (o : Ongoing f song c times at) where
  pub end-past : length f ≤ at → None ≡ text_read song (text_in f)
  end-past h = sym (ap (run song (kept (cells c times))) (text-past f at h)) ∙ o.whole

  pub end_marked : marker (drop at f) ≡ true → Some (record { end = at; times = times; cells = c }) ≡ text_read song (text_in f)
  end_marked m = sym (ap (run song (kept (cells c times))) (text_marked f at m)) ∙ o.whole

  module _ (unmarked : marker (drop at f) ≡ false) where
    pub end-bad : entry_at f at ≡ None → None ≡ text_read song (text_in f)
    end-bad b = sym (text-bad f at unmarked song (cells c times) b) ∙ o.whole

    module _ (x : Entry) (inside : at < length f) (good : entry_at f at ≡ Some x) (i : ℕ) (number : i ≡ index_of x.tag) where
      goes : run song (kept (cells c times)) (text_on f at) ≡ run song (step_to song (cells c times) i (Some x.stated)) (text_on f x.next)
      goes = rw number (text-good f at unmarked song (cells c times) x good)

      -- the line is taken, and the cells are those that a step keeps
      going : (d : List (Option Stated)) (k : ℕ) → length d ≡ 14 → k ≤ times + 1 → step_to song (cells c times) i (Some x.stated) ≡ kept (cells d k) → Ongoing f song d k x.next
      going d k long few is = record {
        long = long;
        few = omega (arith, o.few, few, (entry-facts f at x inside good).0);
        whole = sym (goes ∙ ap (λ (s : Step). run song s (text_on f x.next)) is) ∙ o.whole;
      }

      pub end-twice : (i ≡ 13 → ⊥) → is_some (get_or c i None) ≡ true → None ≡ text_read song (text_in f)
      end-twice t d = sym (goes ∙ rw (ne_eqb i 13 t, d) (run-bad song (text_on f x.next))) ∙ o.whole

      pub go-time : i ≡ 13 → times ≡ song → Ongoing f song (set c i (Some x.stated)) (times + 1) x.next
      go-time t s = going (set c i (Some x.stated)) (times + 1) (simp length-set o.long) (omega arith) (rw (t, eq-eqb times song s))

      pub go-other : i ≡ 13 → (times ≡ song → ⊥) → Ongoing f song c (times + 1) x.next
      go-other t s = going c (times + 1) o.long (omega arith) (rw (t, ne_eqb times song s))

      pub go-tag : (i ≡ 13 → ⊥) → is_some (get_or c i None) ≡ false → Ongoing f song (set c i (Some x.stated)) times x.next
      go-tag t d = going (set c i (Some x.stated)) times (simp length-set o.long) (omega arith) (rw (ne_eqb i 13 t, d))
