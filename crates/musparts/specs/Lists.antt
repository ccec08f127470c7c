-- docs/INTERFACE.md, 'The voices and lines of a MUS file': what stands in the list after a call that answers
-- with a value.
-- line_numbers    the file offset of a line's first byte and its length; nothing where there is no such line
-- span_numbers    'the file offset of its first pair' and its stored pairs
-- place_numbers   these 'for voice 1, then 2, then 3'
-- time_numbers    the time of a voice's HLT
use Rattle.std.specs.Prelude.{ℕ, ◌/◌, List, [], ◌∷◌}
use Rattle.fields.specs.declared.Span.{Span}
use Rattle.container.specs.declared.Voices.{Voices}
use Rattle.std.specs.Prelude.{Option, Some, None}

abbrev pub line_numbers : Option Span → List ℕ
line_numbers (Some s) = s.from ∷ s.len ∷ []
line_numbers None = []

abbrev pub span_numbers : Span → List ℕ → List ℕ
span_numbers s rest = s.from ∷ s.len / 2 ∷ rest

abbrev pub place_numbers : Voices → List ℕ
place_numbers v = span_numbers v.voice1 (span_numbers v.voice2 (span_numbers v.voice3 []))

abbrev pub time_numbers : ℕ → List ℕ
time_numbers t = t ∷ []
