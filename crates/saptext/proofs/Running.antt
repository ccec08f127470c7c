-- The lines of a header taken one by one: what each adds to the cells. Assumes nothing.
-- Cells, Step       the cells and how many TIMEs there were; the cells after one more line, or that it is bad
-- step_with, step    a line
-- next, finished    a line after a step, and the end
-- run_lines, run     the lines of a list and of a text
-- run-line          a text is run through its first line and the others
-- run-bad           after a bad line nothing counts
use Prim.Native.Nat.{ℕ, ◌+◌}
use mathlib.Core.Path.{◌≡◌, refl}
use mathlib.Core.Bool.{cond}
use mathlib.Core.List.{List, [], ◌∷◌}
use lib.ListN.{get_or, set}
use Rattle.std.specs.Prelude.{Option, Some, None}
use Rattle.std.specs.Option.{is_some}
use lib.Dec.{eqb}
use Rattle.saptags.specs.Tags.{index_of}
use Rattle.saplines.specs.declared.Line.{Line}
use Rattle.saptext.specs.Text.{StoredLine, Text, with_line}
use Rattle.saptext.specs.Text.Text.{unended, ended}
use Rattle.saptext.specs.declared.Stated.{Stated}
use Rattle.saptext.specs.declared.Lines.{Lines}
use Rattle.saptext.specs.Stated.{entry_of, stated_by}

pub record Cells : Type 0 where
  pub cells : List (Option Stated)
  pub times : ℕ

pub data Step : Type 0 where
  bad : Step
  kept : Cells → Step

-- a line of a tag's number, and what it states
abbrev pub noted : Cells → ℕ → ℕ → Option Stated → Cells
noted c times i s = record { cells = set c.cells i s; times = times }

abbrev pub timed : ℕ → Cells → Option Stated → Cells
timed song c s = cond (eqb c.times song) (noted c (c.times + 1) 13 s) (record { cells = c.cells; times = c.times + 1 })

abbrev pub step_to : ℕ → Cells → ℕ → Option Stated → Step
step_to song c i s =
    cond (eqb i 13) (kept (timed song c s))
    (cond (is_some (get_or c.cells i None)) bad (kept (noted c c.times i s)))

abbrev pub step_with : ℕ → Cells → ℕ → Option Line → Step
step_with song c from None = bad
step_with song c from (Some k) = step_to song c (index_of k.tag) (stated_by from (Some k))

abbrev pub step : ℕ → Cells → StoredLine → Step
step song c l = step_with song c l.from (entry_of l.bytes)

abbrev pub next : ℕ → Step → StoredLine → Step
next song bad l = bad
next song (kept c) l = step song c l

abbrev pub finished : Step → ℕ → Option Lines
finished bad end = None
finished (kept c) end = Some (record { end = end; times = c.times; cells = c.cells })

abbrev pub run_lines : ℕ → Step → List StoredLine → ℕ → Option Lines
run_lines song s [] end = finished s end
run_lines song s (l ∷ ls) end = run_lines song (next song s l) ls end

abbrev pub run : ℕ → Step → Text → Option Lines
run song c unended = None
run song c (ended ls end) = run_lines song c ls end

pub run-line : (song : ℕ) (c : Cells) (l : StoredLine) (t : Text) → run song (kept c) (with_line l t) ≡ run song (step song c l) t
run-line song c l unended = refl
run-line song c l (ended ls end) = refl

pub lines-bad : (song : ℕ) (ls : List StoredLine) (end : ℕ) → run_lines song bad ls end ≡ None
lines-bad song [] end = refl
lines-bad song (l ∷ ls) end = lines-bad song ls end

pub run-bad : (song : ℕ) (t : Text) → run song bad t ≡ None
run-bad song unended = refl
run-bad song (ended ls end) = lines-bad song ls end
