-- Source 004's tables: their rows lie apart, so that their order says nothing, and the bytes that fit none
-- are those that document 01, as corrected by request (ii), lists; of first bytes also the notes' and 01,
-- which have their own tables.
-- holding, rows_fitting   how many rows a byte fits, after 01 and as a first byte
-- seconds-apart          no second byte after 01 fits two rows
-- unassigned_seconds, seconds-unassigned   'Unassigned: 53 6F 7F 9F BF CF FF' as corrected, after 01
-- others, firsts-apart   no first byte fits two rows of the other table
-- unassigned_first, firsts-unassigned      notes' first bytes and 01; and 'Unassigned: low bits 01 other than
--                                         01, and 8E AE CE EE'
use Rattle.std.specs.Prelude.{ℕ, ◌+◌, ◌%◌, ◌≤◌, ◌<◌, ◌≡◌, Bool, true, false, ◌||◌, List, [], ◌∷◌, ◌++◌, eqb, leb}
use Rattle.std.proofs.Common.{leb→le}
use Rattle.logic.specs.Every.{every_at, same, same_equal, among}
use Rattle.commandtable.specs.Patterns.{fits}
use Rattle.commandtable.specs.Codes as Codes
use Rattle.commandtable.specs.Codes.{rows, fits_row}
use Rattle.command.specs.Others.{FirstRow, pulse_rows, single_rows, joined_rows}

abbrev one : Bool → ℕ
one true = 1
one false = 0

abbrev pub holding : List Codes.Row → ℕ → ℕ
holding [] b = 0
holding (r ∷ rs) b = one (fits_row r b) + holding rs b

-- No second byte after 01 fits two rows.
pub seconds-apart : (b : ℕ) → b < 256 → holding rows b ≤ 1
seconds-apart b h = leb→le (holding rows b) 1 (every_at (λ k. leb (holding rows k) 1) 256 tt b h)

abbrev pub unassigned_seconds : List ℕ
unassigned_seconds = 0x53 ∷ 0x6F ∷ 0x7F ∷ 0x9F ∷ 0xBF ∷ 0xCF ∷ 0xFF ∷ []

-- A second byte after 01 fits no row exactly when document 01, as corrected, lists it as unassigned.
pub seconds-unassigned : (b : ℕ) → b < 256 → eqb (holding rows b) 0 ≡ among unassigned_seconds b
seconds-unassigned b h =
    same_equal (eqb (holding rows b) 0) (among unassigned_seconds b)
    (every_at (λ k. same (eqb (holding rows k) 0) (among unassigned_seconds k)) 256 tt b h)

abbrev pub rows_fitting : List FirstRow → ℕ → ℕ
rows_fitting [] a = 0
rows_fitting (r ∷ rs) a = one (fits r.pattern a) + rows_fitting rs a

abbrev pub others : List FirstRow
others = pulse_rows ++ single_rows ++ joined_rows

-- No first byte fits two rows.
pub firsts-apart : (a : ℕ) → a < 256 → rows_fitting others a ≤ 1
firsts-apart a h = leb→le (rows_fitting others a) 1 (every_at (λ k. leb (rows_fitting others k) 1) 256 tt a h)

-- notes' first bytes and 01, which are not unassigned but have their own tables; and the unassigned ones:
-- the others with low bits 01, and the four that are listed
abbrev pub unassigned_first : ℕ → Bool
unassigned_first a = eqb (a % 4) 0 || eqb (a % 4) 1 || among (0x8E ∷ 0xAE ∷ 0xCE ∷ 0xEE ∷ []) a

-- A first byte fits no row exactly when it is a note's, has low bits 01 (01 too), or is one of the four that
-- are listed as unassigned.
pub firsts-unassigned : (a : ℕ) → a < 256 → eqb (rows_fitting others a) 0 ≡ unassigned_first a
firsts-unassigned a h =
    same_equal (eqb (rows_fitting others a) 0) (unassigned_first a)
    (every_at (λ k. same (eqb (rows_fitting others k) 0) (unassigned_first k)) 256 tt a h)
