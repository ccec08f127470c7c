-- Source 004, 'COMMANDS WITH FIRST BYTE = HEX 01', row by row. The bytes that fit no row are 'Unassigned: 53
-- 6F 7F 9F BF CF FF' (document 01, corrected by request (ii)).
-- Command                   the commands of the table in its order, and none
-- Row                       a row: the second byte's pattern, the command, and which numbers it may have and
--                           what is added to them
-- counts, is, plus16, up_to  kinds of rows: every number; a byte with one value; numbers from a least one
--                           with 16 added; numbers up to a greatest
-- rows_from                  the table, where a number is the least of the two rows 1nnn of DEF and CAL
-- rows                      the table as it holds: that least number is 0, which is phrase 16
-- fits_row                   whether a byte fits a row, with a number that the row may have
-- CommandValue, second_by, second_means   a second byte's command and value: those of the row that it fits
-- command_meaning            what a command and its value mean
-- second_from                the meaning of 01 and a second byte, or 27, by the rows from a least number
-- second_outcome             the same by the table as it holds
use Rattle.std.specs.Prelude.{ℕ, ◌+◌, Bool, ◌&&◌, cond, List, [], ◌∷◌, eqb, leb}
use Rattle.meaning.specs.Bumps.{bump_of}
use Rattle.meaning.specs.declared.Meaning.{Meaning}
use Rattle.meaning.specs.declared.Meaning.TheVariants.{Dcy, Rup, Cal, Bmp, Flt, Rng, Snc, Fx, Def, Atk, Sus, Lfo, Pv, Rdn, Wav, Fm, Rls, Res, ThreeOff, Vol, Tal, End, Hlt, Src, Dst}
use Rattle.refusals.specs.declared.Reason.TheVariants.{UnassignedPair}
use Rattle.refusals.specs.Numbers.{Outcome, number_of}
use Rattle.refusals.specs.Numbers.Outcome.{accepted, refused}
use Rattle.commandtable.specs.Patterns.{Symbol, O, I, n, byte, fits, number}

pub data Command : Type 0 where
  DCY RUP CAL BMP FLT RNG SNC F-X DEF ATK SUS LFO P&V RDN WAV F-M RLS RES 3-0 VOL TAL END HLT SRC DST none : Command

pub record Row : Type 0 where
  pub pattern : List Symbol
  pub command : Command
  pub least : ℕ
  pub most : ℕ
  pub added : ℕ

abbrev counts : List Symbol → Command → Row
counts p c = record { pattern = p; command = c; least = 0; most = 31; added = 0 }

abbrev is : List Symbol → Command → ℕ → Row
is p c v = record { pattern = p; command = c; least = 0; most = 0; added = v }

-- 'Bits 7654 contain a value .. which is 8 less than the true value', so 1nnn means 16 + nnn
abbrev plus16 : ℕ → List Symbol → Command → Row
plus16 least p c = record { pattern = p; command = c; least = least; most = 7; added = 16 }

abbrev up_to : ℕ → List Symbol → Command → Row
up_to most p c = record { pattern = p; command = c; least = 0; most = most; added = 0 }

abbrev pub rows_from : ℕ → List Row
rows_from least =
    counts (byte n n n n O O O O) DCY
    ∷ counts (byte n n n n n O O I) RUP
    ∷ counts (byte n n n n O O I O) CAL
    ∷ is (byte O O O O O O I I) BMP 0
    ∷ is (byte O O O I O O I I) FLT 0
    ∷ is (byte O O I O O O I I) RNG 0
    ∷ is (byte O O I I O O I I) SNC 0
    ∷ is (byte O I O O O O I I) F-X 0
    ∷ plus16 least (byte I n n n O O I I) DEF
    ∷ counts (byte O n n n n I O O) ATK
    ∷ counts (byte I n n n n I O O) SUS
    ∷ is (byte O I I O O O I I) LFO 0
    ∷ is (byte O I I I O O I I) P&V 0
    ∷ counts (byte n n n n n I O I) RDN
    ∷ counts (byte n n n n O I I O) DEF
    ∷ counts (byte n n n O O I I I) WAV
    ∷ counts (byte n n n I O I I I) F-M
    ∷ counts (byte n n n n I O O O) RLS
    ∷ counts (byte n n n n I O I O) RES
    ∷ is (byte O O O O I O I I) BMP 1
    ∷ is (byte O O O I I O I I) FLT 1
    ∷ is (byte O O I O I O I I) RNG 1
    ∷ is (byte O O I I I O I I) SNC 1
    ∷ is (byte O I O O I O I I) F-X 1
    ∷ is (byte O I O I I O I I) 3-0 1
    ∷ is (byte O I I O I O I I) LFO 1
    ∷ is (byte O I I I I O I I) P&V 1
    ∷ plus16 least (byte I n n n I O I I) CAL
    ∷ counts (byte n n n n I I I O) VOL
    ∷ is (byte O O O O I I I I) TAL 0
    ∷ is (byte O O I O I I I I) END 0
    ∷ is (byte O I O O I I I I) HLT 0
    ∷ up_to 2 (byte O n n I I I I I) SRC
    ∷ is (byte I O O O I I I I) DST 0
    ∷ is (byte I O I O I I I I) DST 1
    ∷ is (byte I I O I I I I I) DST 2
    ∷ is (byte I I I O I I I I) DST 3
    ∷ []

-- 'The pattern is right: nibble 8 in the n3 and nB rows means phrase 16' (request (ii))
abbrev pub rows : List Row
rows = rows_from 0

pub record CommandValue : Type 0 where
  pub command : Command
  pub value : ℕ

abbrev pub fits_row : Row → ℕ → Bool
fits_row r b = fits r.pattern b && leb r.least (number r.pattern b) && leb (number r.pattern b) r.most

abbrev pub second_by : List Row → ℕ → CommandValue
second_by [] b = record { command = none; value = 0 }
second_by (r ∷ rs) b =
    cond (fits_row r b) (record { command = r.command; value = r.added + number r.pattern b }) (second_by rs b)

abbrev pub second_means : ℕ → CommandValue
second_means b = second_by rows b

abbrev pub command_meaning : Command → ℕ → Outcome Meaning
command_meaning DCY v = accepted (Dcy v)
command_meaning RUP v = accepted (Rup v)
command_meaning CAL v = accepted (Cal v)
command_meaning BMP v = accepted (Bmp (bump_of v))
command_meaning FLT v = accepted (Flt (eqb v 1))
command_meaning RNG v = accepted (Rng (eqb v 1))
command_meaning SNC v = accepted (Snc (eqb v 1))
command_meaning F-X v = accepted (Fx (eqb v 1))
command_meaning DEF v = accepted (Def v)
command_meaning ATK v = accepted (Atk v)
command_meaning SUS v = accepted (Sus v)
command_meaning LFO v = accepted (Lfo v)
command_meaning P&V v = accepted (Pv (eqb v 1))
command_meaning RDN v = accepted (Rdn v)
command_meaning WAV v = accepted (Wav v)
command_meaning F-M v = accepted (Fm v)
command_meaning RLS v = accepted (Rls v)
command_meaning RES v = accepted (Res v)
command_meaning 3-0 v = accepted (ThreeOff (eqb v 1))
command_meaning VOL v = accepted (Vol v)
command_meaning TAL v = accepted Tal
command_meaning END v = accepted End
command_meaning HLT v = accepted Hlt
command_meaning SRC v = accepted (Src v)
command_meaning DST v = accepted (Dst v)
command_meaning none v = refused (number_of UnassignedPair) 0

abbrev pub second_from : ℕ → ℕ → Outcome Meaning
second_from least b = command_meaning (second_by (rows_from least) b).command (second_by (rows_from least) b).value

abbrev pub second_outcome : ℕ → Outcome Meaning
second_outcome b = second_from 0 b
