-- Document 01, 'each a part of the lent bytes', of the texts of a SAP file.
-- text_part   the part of a file that a text's place names; nothing where the text is absent
-- place_in    where the header says that a text lies, by its name
use Rattle.std.specs.Prelude.{Option, Some, None, ℕ, List, []}
use Rattle.fields.specs.declared.Span.{Span}
use Rattle.fields.specs.Parts.{part_of}
use Rattle.sapheader.specs.declared.Header.{Header}
use Rattle.sapparts.specs.declared.Piece.{Piece}
use Rattle.sapparts.specs.declared.Piece.TheVariants.{Author, Name, Date}

abbrev pub text_part : List ℕ → Option Span → List ℕ
text_part f None = []
text_part f (Some span) = part_of f span

abbrev pub place_in : Header → Piece → Option Span
place_in h Author = h.author
place_in h Name = h.name
place_in h Date = h.date
