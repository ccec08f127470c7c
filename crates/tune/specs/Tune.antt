-- Document 01, 'PSID and RSID': 'An accepted file is shown as one thing whose title, author, released text
-- and payload are each a part of the lent bytes'.
-- span_of    where the header says that a part lies, by the part's name
-- tune_of    that one thing, of a file and its accepted header
-- place_in   where a part lies in it, by the part's name
use Rattle.std.specs.Prelude.{ℕ, List}
use Rattle.std.specs.Borrow.{Bor}
use Rattle.fields.specs.declared.Span.{Span}
use Rattle.sid.specs.declared.Header.{Header}
use Rattle.tune.specs.declared.Piece.{Piece}
use Rattle.tune.specs.declared.Piece.TheVariants.{Title, Author, Released, Payload}
use Rattle.tune.specs.declared.Tune.{Tune}

abbrev pub span_of : Header → Piece → Span
span_of h Title = h.title
span_of h Author = h.author
span_of h Released = h.released
span_of h Payload = h.payload

abbrev pub tune_of : Bor (List ℕ) → Header → Tune
tune_of file h =
    record {
      file = file;
      title = h.title;
      author = h.author;
      released = h.released;
      payload = h.payload;
    }

abbrev pub place_in : Tune → Piece → Span
place_in t Title = t.title
place_in t Author = t.author
place_in t Released = t.released
place_in t Payload = t.payload
