-- Source 004, 'COMMANDS WHOSE FIRST BYTE IS NOT HEX 01', row by row: the first byte's pattern, and what the
-- number means that its n bits and the second byte make. 'In P-W, MS#, JIF, DTN and POR the first byte's bits
-- stand above the second byte (house).'
-- up_to127         'VDP, PVD, PVR out of range above 127'
-- tempo_of         'TEM 0 means 256'
-- FirstRow, row   a row of the table
-- pulse_rows, single_rows, joined_rows   the rows, in the table's order: P-W; those whose first byte is one
--                                     byte; those whose value begins in it
-- row_found        the row that a first byte fits, or what else there is
-- unassigned      27
-- joined_outcome, other_outcome   the meaning of a pair by these rows; 'Unassigned: low bits 01 other than
--                               01, and 8E AE CE EE'
use Rattle.std.specs.Prelude.{ℕ, ◌+◌, ◌*◌, List, [], ◌∷◌, cond, eqb, leb}
use Rattle.meaning.specs.declared.Meaning.{Meaning}
use Rattle.meaning.specs.declared.Meaning.TheVariants.{Pw, Tem, Utl, Pnt, Hed, Flg, Ps, Fs, Vdp, Vrt, Aut, Aux, Pvd, Pvr, Max, Utv, Fc, Hld, Ms, Dtn, Por}
use Rattle.refusals.specs.declared.Reason.TheVariants.{UnassignedPair}
use Rattle.refusals.specs.Numbers.{Outcome, number_of}
use Rattle.refusals.specs.Numbers.Outcome.{accepted, refused}
use Rattle.commandtable.specs.Patterns.{Symbol, O, I, n, byte, fits, number}
use Rattle.commandsigns.specs.Signs.{out_of_range, signed_byte, detuning_of, sca_outcome, tps_outcome, rtp_outcome, jif_outcome}

abbrev pub up_to127 : ℕ → Meaning → Outcome Meaning
up_to127 v m = cond (leb v 127) (accepted m) out_of_range

abbrev pub tempo_of : ℕ → ℕ
tempo_of v = cond (eqb v 0) 256 v

pub record FirstRow : Type 0 where
  pub pattern : List Symbol
  pub means : ℕ → Outcome Meaning

abbrev row : List Symbol → (ℕ → Outcome Meaning) → FirstRow
row p f = record { pattern = p; means = f }

abbrev pub pulse_rows : List FirstRow
pulse_rows = row (byte n n n n O O I O) (λ v. accepted (Pw v)) ∷ []

abbrev pub single_rows : List FirstRow
single_rows =
    row (byte O O O O O I I O) (λ v. accepted (Tem (tempo_of v)))
    ∷ row (byte O O O I O I I O) (λ v. accepted (Utl v))
    ∷ row (byte O O I O O I I O) (λ v. accepted (Pnt v))
    ∷ row (byte O O I I O I I O) (λ v. accepted (Hed v))
    ∷ row (byte O I O O O I I O) (λ v. accepted (Flg v))
    ∷ row (byte O I O I O I I O) (λ v. accepted (Ps (signed_byte v)))
    ∷ row (byte O I I O O I I O) (λ v. accepted (Fs (signed_byte v)))
    ∷ row (byte O I I O I I I O) (λ v. sca_outcome v)
    ∷ row (byte O I I I O I I O) (λ v. up_to127 v (Vdp v))
    ∷ row (byte I O O O O I I O) (λ v. accepted (Vrt v))
    ∷ row (byte I O O I O I I O) (λ v. accepted (Aut (signed_byte v)))
    ∷ row (byte I O I O O I I O) (λ v. tps_outcome v)
    ∷ row (byte I O I I O I I O) (λ v. accepted (Aux v))
    ∷ row (byte I I O O O I I O) (λ v. up_to127 v (Pvd v))
    ∷ row (byte I I O I O I I O) (λ v. up_to127 v (Pvr v))
    ∷ row (byte I I I O O I I O) (λ v. accepted (Max v))
    ∷ row (byte I I I I O I I O) (λ v. accepted (Utv v))
    ∷ row (byte O O O O I I I O) (λ v. accepted (Fc v))
    ∷ row (byte O O I O I I I O) (λ v. rtp_outcome v)
    ∷ row (byte O I O O I I I O) (λ v. accepted (Hld v))
    ∷ []

abbrev pub joined_rows : List FirstRow
joined_rows =
    row (byte n n O I I I I O) (λ v. accepted (Ms v))
    ∷ row (byte n n I I I I I O) (λ v. jif_outcome v)
    ∷ row (byte n n n O I O I O) (λ v. accepted (Dtn (detuning_of v 0)))
    ∷ row (byte n n n I I O I O) (λ v. accepted (Dtn (detuning_of v 1)))
    ∷ row (byte n n n n n n I I) (λ v. accepted (Por v))
    ∷ []

abbrev pub row_found : List FirstRow → ℕ → ℕ → Outcome Meaning → Outcome Meaning
row_found [] a b else = else
row_found (r ∷ rs) a b else = cond (fits r.pattern a) (r.means (number r.pattern a * 256 + b)) (row_found rs a b else)

abbrev pub unassigned : Outcome Meaning
unassigned = refused (number_of UnassignedPair) 0

abbrev pub joined_outcome : ℕ → ℕ → Outcome Meaning
joined_outcome a b = row_found joined_rows a b unassigned

abbrev pub other_outcome : ℕ → ℕ → Outcome Meaning
other_outcome a b = row_found pulse_rows a b (row_found single_rows a b (joined_outcome a b))
