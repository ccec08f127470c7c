-- Document 01, 'PSID and RSID', last paragraph: a text cut at a zero, and a payload put into memory.
-- part_of       the part of lent bytes that a span names; of it what lies in them
-- before, before_zero   'cut before the first zero among them', and so before any mark, byte by byte with
--                      unless_mark
-- front        values in the first cells of a list, as many as fit, and the cells after them as they stood
-- byte_text     a text as bytes
-- put          the bytes p in the place of those from a on, 'every cell but the payload's as it stood'
use Rattle.std.specs.Prelude.{ℕ, ◌+◌, min, Bool, true, false, List, [], ◌∷◌, ◌++◌, length, take, drop, eqb}
use Prim.Native.String.{String}
use Prim.Native.String as string
use Prim.Native.Char.{code}
use Rattle.fields.specs.declared.Span.{Span}

abbrev pub part_of : List ℕ → Span → List ℕ
part_of f s = take s.len (drop s.from f)

abbrev pub unless_mark : Bool → ℕ → List ℕ → List ℕ
unless_mark true b later = []
unless_mark false b later = b ∷ later

unfoldable pub before : ℕ → List ℕ → List ℕ
before mark [] = []
before mark (b ∷ bs) = unless_mark (eqb b mark) b (before mark bs)

abbrev pub before_zero : List ℕ → List ℕ
before_zero s = before 0 s

unfoldable pub put : List ℕ → ℕ → List ℕ → List ℕ
put m a p = take a m ++ p ++ drop (a + length p) m

abbrev pub front : {A : Type 0} → List A → List A → List A
front values cells = take (min (length values) (length cells)) values ++ drop (min (length values) (length cells)) cells

abbrev pub byte_text : String → List ℕ
byte_text string.[] = []
byte_text (string.◌∷◌ c s) = code c ∷ byte_text s
