-- Document 01, 'MUS container': 'Text is five lines'. What a caller who names a line is answered: the line is
-- not copied, its place in the lent bytes is given out. No listed number says that there is no such line, so
-- that is no refusal; a refused file comes first (house, docs/DECISIONS.md).
-- song_line        where the line of a song with a number lies, from 1 to 5; for any other number there is
--                  none
-- line_asked       a line by its number: the file's own refusal, then the line
use Rattle.std.specs.Prelude.{Option, Some, None, ℕ, List, cond, eqb}
use Rattle.refusals.specs.Numbers.{Outcome}
use Rattle.refusals.specs.Numbers.Outcome.{accepted}
use Rattle.refusals.specs.Tests.{and_then}
use Rattle.fields.specs.declared.Span.{Span}
use Rattle.mus.specs.declared.Song.{Song}
use Rattle.mus.specs.Song.{mus_outcome}

abbrev pub song_line : Song → ℕ → Option Span
song_line s n =
    cond (eqb n 1) (Some s.line1)
    (cond (eqb n 2) (Some s.line2)
    (cond (eqb n 3) (Some s.line3) (cond (eqb n 4) (Some s.line4) (cond (eqb n 5) (Some s.line5) None))))

unfoldable pub line_asked : List ℕ → ℕ → Outcome (Option Span)
line_asked f n = and_then (mus_outcome f) (λ s. accepted (song_line s n))
