-- Document 01, 'MUS container': 'Text is five lines of 0 to 32 bytes other than $0D and $00, each closed by
-- $0D, then one $00; else 25.'
-- ends_line                     $0D and $00, the bytes that no line has
-- line_bytes                    the bytes before the first of these
-- line_at                       the line that begins at a byte of the file
-- line_fits                     it has 0 to 32 bytes and is closed by $0D
-- next_line                     where the next line begins
-- line_start                    where line i begins, counted from 0, of a text that begins at a byte of the
--                              file
-- line                         the bytes of line i
-- zero_at                       the file has a $00 at a byte
-- text_fits                     five lines, 'then one $00'
-- text_end                      where the text ends
-- span_of_line, line_of, text_of   where a line lies, and what is known of a line and of the text
-- text_tests                    25 and 26, in the paper's order
use Rattle.std.specs.Prelude.{ℕ, zero, suc, ◌+◌, Bool, not, ◌&&◌, ◌||◌, cond, List, [], ◌∷◌, length, drop, get_or, ltb, leb, eqb}
use Rattle.refusals.specs.declared.Reason.TheVariants.{TextLines, BytesAfterText}
use Rattle.refusals.specs.declared.Test.{Test}
use Rattle.refusals.specs.Tests.{test}
use Rattle.fields.specs.declared.Span.{Span}
use Rattle.container.specs.declared.text.Line.{Line}
use Rattle.container.specs.declared.text.Text.{Text}

abbrev pub ends_line : ℕ → Bool
ends_line b = eqb b 0x0D || eqb b 0

unfoldable pub line_bytes : List ℕ → List ℕ
line_bytes [] = []
line_bytes (b ∷ bs) = cond (ends_line b) [] (b ∷ line_bytes bs)

abbrev pub line_at : List ℕ → ℕ → List ℕ
line_at f from = line_bytes (drop from f)

abbrev pub line_fits : List ℕ → ℕ → Bool
line_fits f from = leb (length (line_at f from)) 32 && eqb (get_or f (from + length (line_at f from)) 0) 0x0D

abbrev pub next_line : List ℕ → ℕ → ℕ
next_line f from = from + length (line_at f from) + 1

abbrev pub line_start : List ℕ → ℕ → ℕ → ℕ
line_start f at zero = at
line_start f at (suc i) = next_line f (line_start f at i)

abbrev pub line : List ℕ → ℕ → ℕ → List ℕ
line f at i = line_at f (line_start f at i)

abbrev pub zero_at : List ℕ → ℕ → Bool
zero_at f place = ltb place (length f) && eqb (get_or f place 0) 0

abbrev pub text_fits : List ℕ → ℕ → Bool
text_fits f at =
    line_fits f (line_start f at 0)
    && line_fits f (line_start f at 1)
    && line_fits f (line_start f at 2)
    && line_fits f (line_start f at 3)
    && line_fits f (line_start f at 4)
    && zero_at f (line_start f at 5)

abbrev pub text_end : List ℕ → ℕ → ℕ
text_end f at = line_start f at 5 + 1

abbrev pub span_of_line : List ℕ → ℕ → Span
span_of_line f from = record { from = from; len = length (line_at f from) }

unfoldable pub line_of : List ℕ → ℕ → Line
line_of f from = record { span = span_of_line f from; fits = line_fits f from; next = next_line f from }

unfoldable pub text_of : List ℕ → ℕ → Text
text_of f at =
    record {
      line1 = span_of_line f (line_start f at 0);
      line2 = span_of_line f (line_start f at 1);
      line3 = span_of_line f (line_start f at 2);
      line4 = span_of_line f (line_start f at 3);
      line5 = span_of_line f (line_start f at 4);
      fits = text_fits f at;
      end = text_end f at;
    }

abbrev pub text_tests : Text → ℕ → List Test
text_tests t size =
    -- 25: not five lines and a $00
    test TextLines (not t.fits)
    -- 26: bytes after the text
    ∷ test BytesAfterText (ltb t.end size)
    ∷ []
