-- docs/INTERFACE.md, 'The code of a meaning': eight hex digits.
-- 1DDSTLAO is a note, 2CCSVVVV or 3CCSVVVV a command.
-- count          a command's code, of a value that is not negative; its three first digits are its number
-- signed         the same of a value with a sign: S is '0, or 1 for a value below 0',
--                VVVV 'the value without its sign'; signed_by is its part by sign and size
-- switch, bump   'NO is 0 and YES 1, BMP's UP is 0 and DN 1'
-- duration_digits, shape_digit, tie_digit, letter_digit, accidental_digit   a note's digits
-- tone_digits     letter, accidental and octave; '0 for a rest, whose A and O are 0 too'
-- note_code       a note's code
-- code_of         a meaning's code, in source 004's order; one-to-one for the meanings that some pair has
use Rattle.std.specs.Prelude.{ℕ, ◌+◌, ◌*◌, Bool, true, false, cond, ℤ}
use Rattle.meaning.specs.declared.Duration.{Duration}
use Rattle.meaning.specs.declared.Duration.TheVariants.{Whole, Half, Quarter, Eighth, Sixteenth, ThirtySecond}
use Rattle.meaning.specs.declared.Duration.TheVariants.{SixtyFourth, UtilityDuration, UtilityVoice, AbsolutePitch}
use Rattle.meaning.specs.declared.Shape.{Shape}
use Rattle.meaning.specs.declared.Shape.TheVariants.{Plain, Dotted, DoubleDotted, Triplet}
use Rattle.meaning.specs.declared.Letter.{Letter}
use Rattle.meaning.specs.declared.Letter.TheVariants.{C, D, E, F, G, A, B}
use Rattle.meaning.specs.declared.Accidental.{Accidental}
use Rattle.meaning.specs.declared.Accidental.TheVariants.{Flat, Natural, Sharp, DoubleSharp, DoubleFlat}
use Rattle.meaning.specs.declared.Tone.{Tone}
use Rattle.meaning.specs.declared.Tone.TheVariants.{Rest, Sounds}
use Rattle.meaning.specs.declared.Note.{Note}
use Rattle.meaning.specs.declared.Bump.{Bump}
use Rattle.meaning.specs.declared.Bump.TheVariants.{Up, Down}
use Rattle.meaning.specs.declared.Meaning.{Meaning}
use Rattle.meaning.specs.declared.Meaning.TheVariants as M
use Rattle.signed.specs.declared.Parts.{Parts}
use Rattle.signed.specs.Signs.{parts_of}

abbrev pub count : ℕ → ℕ → ℕ
count id v = id * 0x100000 + v

abbrev pub signed_by : ℕ → Parts → ℕ
signed_by id p = cond p.negative (id * 0x100000 + 0x10000 + p.size) (id * 0x100000 + p.size)

abbrev pub signed : ℕ → ℤ → ℕ
signed id z = signed_by id (parts_of z)

abbrev pub switch : ℕ → Bool → ℕ
switch id false = id * 0x100000
switch id true = id * 0x100000 + 1

abbrev pub bump : ℕ → Bump → ℕ
bump id Up = id * 0x100000
bump id Down = id * 0x100000 + 1

abbrev pub duration_digits : Duration → ℕ
duration_digits Whole = 0x01
duration_digits Half = 0x02
duration_digits Quarter = 0x04
duration_digits Eighth = 0x08
duration_digits Sixteenth = 0x16
duration_digits ThirtySecond = 0x32
duration_digits SixtyFourth = 0x64
duration_digits UtilityDuration = 0xD1
duration_digits UtilityVoice = 0xD2
duration_digits AbsolutePitch = 0xAB

abbrev pub shape_digit : Shape → ℕ
shape_digit Plain = 0
shape_digit Dotted = 1
shape_digit DoubleDotted = 2
shape_digit Triplet = 3

abbrev pub tie_digit : Bool → ℕ
tie_digit false = 0
tie_digit true = 1

abbrev pub letter_digit : Letter → ℕ
letter_digit C = 0xC
letter_digit D = 0xD
letter_digit E = 0xE
letter_digit F = 0xF
letter_digit G = 0x6
letter_digit A = 0xA
letter_digit B = 0xB

abbrev pub accidental_digit : Accidental → ℕ
accidental_digit Flat = 0xF
accidental_digit Natural = 0x0
accidental_digit Sharp = 0x1
accidental_digit DoubleSharp = 0x2
accidental_digit DoubleFlat = 0xE

abbrev pub tone_digits : Tone → ℕ
tone_digits Rest = 0
tone_digits (Sounds p) = letter_digit p.letter * 0x100 + accidental_digit p.accidental * 0x10 + p.octave

abbrev pub note_code : Note → ℕ
note_code n =
    0x10000000 + duration_digits n.duration * 0x100000 + shape_digit n.shape * 0x10000 + tie_digit n.tied * 0x1000 + tone_digits n.tone

abbrev pub code_of : Meaning → ℕ
code_of (M.Note n) = note_code n
code_of (M.Dcy v) = count 0x300 v
code_of (M.Rup v) = count 0x301 v
code_of (M.Cal v) = count 0x302 v
code_of (M.Bmp b) = bump 0x303 b
code_of (M.Flt y) = switch 0x313 y
code_of (M.Rng y) = switch 0x323 y
code_of (M.Snc y) = switch 0x333 y
code_of (M.Fx y) = switch 0x343 y
code_of (M.Def v) = count 0x306 v
code_of (M.Atk v) = count 0x304 v
code_of (M.Sus v) = count 0x384 v
code_of (M.Lfo v) = count 0x363 v
code_of (M.Pv y) = switch 0x373 y
code_of (M.Rdn v) = count 0x305 v
code_of (M.Wav v) = count 0x307 v
code_of (M.Fm v) = count 0x317 v
code_of (M.Rls v) = count 0x308 v
code_of (M.Res v) = count 0x30A v
code_of (M.ThreeOff y) = switch 0x35B y
code_of (M.Vol v) = count 0x30E v
code_of M.Tal = count 0x30F 0
code_of M.End = count 0x32F 0
code_of M.Hlt = count 0x34F 0
code_of (M.Src v) = count 0x31F v
code_of (M.Dst v) = count 0x38F v
code_of (M.Pw v) = count 0x202 v
code_of (M.Tem v) = count 0x206 v
code_of (M.Utl v) = count 0x216 v
code_of (M.Pnt v) = count 0x226 v
code_of (M.Hed v) = count 0x236 v
code_of (M.Flg v) = count 0x246 v
code_of (M.Ps z) = signed 0x256 z
code_of (M.Fs z) = signed 0x266 z
code_of (M.Sca z) = signed 0x26E z
code_of (M.Vdp v) = count 0x276 v
code_of (M.Vrt v) = count 0x286 v
code_of (M.Aut z) = signed 0x296 z
code_of (M.Tps z) = signed 0x2A6 z
code_of (M.Aux v) = count 0x2B6 v
code_of (M.Pvd v) = count 0x2C6 v
code_of (M.Pvr v) = count 0x2D6 v
code_of (M.Max v) = count 0x2E6 v
code_of (M.Utv v) = count 0x2F6 v
code_of (M.Fc v) = count 0x20E v
code_of (M.Rtp z) = signed 0x22E z
code_of (M.Hld v) = count 0x24E v
code_of (M.Ms v) = count 0x21E v
code_of (M.Jif z) = signed 0x23E z
code_of (M.Dtn z) = signed 0x20A z
code_of (M.Por v) = count 0x203 v
