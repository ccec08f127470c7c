-- Source 002, 'Part One - Text Header', and document 02 (i): 'Lines end CR LF, the first is SAP alone, and
-- the header ends where FF FF stands at a line's start.'
-- Pieces, cut_at, cut   bytes cut at each CR LF: the piece before the first one, and the pieces after it
-- StoredLine    a line: where it begins in the file, and its bytes without the CR LF that closes it
-- Text          the lines before the one that begins with FF FF, and where that one begins; or that there is
--               none
-- with_line, text_from   the lines of pieces, the first of which begins at an offset of the file
-- text_on, text_in   the lines from an offset on, and the lines of a file, after its first
use Rattle.std.specs.Prelude.{ℕ, ◌+◌, Bool, true, false, cond, ◌&&◌, List, [], ◌∷◌, length, drop, eqb}
use Rattle.characters.specs.Characters.{begins}
use Rattle.sapblocks.specs.Blocks.{marker}

pub record Pieces : Type 0 where
  pub first : List ℕ
  pub later : List (List ℕ)

-- a byte before pieces: CR before LF ends a piece, and the LF is dropped; any other byte is the first one's
abbrev pub cut_at : Bool → ℕ → Pieces → Pieces
cut_at true b p = record { first = []; later = drop 1 p.first ∷ p.later }
cut_at false b p = record { first = b ∷ p.first; later = p.later }

unfoldable pub cut : List ℕ → Pieces
cut [] = record { first = []; later = [] }
cut (b ∷ bs) = cut_at (eqb b 0x0D && begins 0x0A bs) b (cut bs)

pub record StoredLine : Type 0 where
  pub from : ℕ
  pub bytes : List ℕ

pub data Text : Type 0 where
  unended : Text
  ended : List StoredLine → ℕ → Text

abbrev pub with_line : StoredLine → Text → Text
with_line l unended = unended
with_line l (ended ls end) = ended (l ∷ ls) end

unfoldable pub text_from : ℕ → List ℕ → List (List ℕ) → Text
text_from at l [] = cond (marker l) (ended [] at) unended
text_from at l (k ∷ ks) =
    cond (marker l) (ended [] at) (with_line (record { from = at; bytes = l }) (text_from (at + length l + 2) k ks))

abbrev pub text_on : List ℕ → ℕ → Text
text_on f at = text_from at (cut (drop at f)).first (cut (drop at f)).later

abbrev pub text_in : List ℕ → Text
text_in f = text_on f 5
