-- Each call of a part of a MUS file tells a value from a refusal (`Apart`).
-- part_answers   so for tt_mus_load, _line, _voices and _length
use Prim.Native.Nat.{ℕ, ◌<◌}
use mathlib.Core.List.{List}
use native.Mathlib.Omega.{arith}
use lib.Dec.{lit<}
use lib.ListN.{length}
use Rattle.container.specs.Head.{head_outcome}
use Rattle.mus.specs.Song.{mus_outcome}
use Rattle.mus.specs.Text.{line_asked}
use Rattle.std.specs.Prelude.{Option, Some, None}
use Rattle.fields.specs.declared.Span.{Span}
use Rattle.voicelength.specs.Length.{length_asked}
use Rattle.answers.specs.Apart.{low-apart}
use Rattle.muscalls.proofs.Places.{mus_low}
use Rattle.musparts.specs.Lists.{line_numbers, place_numbers, time_numbers}
use Rattle.musparts.specs.Statements.{PartAnswers}
use Rattle.musparts.proofs.Refusals.{line_low, head-low, length-low}
use Rattle.musparts.proofs.Accepted.{load_narrow}

few : (l : Option Span) → length (line_numbers l) < 0x100000000
few (Some s) = lit< tt
few None = lit< tt

pub part_answers : (f : List ℕ) → PartAnswers f
part_answers f = record {
  load_apart = low-apart (λ s. s.load) (mus_outcome f) (λ s e. omega (arith, load_narrow f s e)) (mus_low f);
  line-apart = λ n. low-apart (λ l. length (line_numbers l)) (line_asked f n) (λ l e. few l) (line_low f n);
  voices_apart = low-apart (λ v. length (place_numbers v)) (head_outcome f) (λ v e. lit< tt) (head-low f);
  length-apart = λ n. low-apart (λ t. length (time_numbers t)) (length_asked f n) (λ t e. lit< tt) (length-low f n);
}
