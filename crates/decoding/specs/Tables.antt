-- docs/INTERFACE.md, 'The code of a meaning', read backwards: what each digit or command's number stands for.
-- The crate codelaws proves that the entries are those of the crate codes.
-- no_meaning          43, for a number that codes no meaning
-- Entry, entry       a number and what it stands for
-- lookup             what a table has for a number, or 43
-- durations, shapes, ties, letters, accidentals   a note's digits
-- as_count, as_switch, as_bump, bare   what a command's value makes of it: a number; NO, YES; UP, DN; no
--                    value
-- above, below       a number above and below 0
-- unsigned_commands   the commands by number, of a value with sign digit 0
-- negative_commands   those that a value below 0 can have, with sign digit 1
use Rattle.std.specs.Prelude.{ℕ, Bool, true, false, cond, List, [], ◌∷◌, eqb, leb, ℤ}
use Rattle.std.proofs.Math.IntN.{sub_ℕ}
use Rattle.meaning.specs.declared.Duration.{Duration}
use Rattle.meaning.specs.declared.Duration.TheVariants.{Whole, Half, Quarter, Eighth, Sixteenth, ThirtySecond}
use Rattle.meaning.specs.declared.Duration.TheVariants.{SixtyFourth, UtilityDuration, UtilityVoice, AbsolutePitch}
use Rattle.meaning.specs.declared.Shape.{Shape}
use Rattle.meaning.specs.declared.Shape.TheVariants.{Plain, Dotted, DoubleDotted, Triplet}
use Rattle.meaning.specs.declared.Letter.{Letter}
use Rattle.meaning.specs.declared.Letter.TheVariants.{C, D, E, F, G, A, B}
use Rattle.meaning.specs.declared.Accidental.{Accidental}
use Rattle.meaning.specs.declared.Accidental.TheVariants.{Flat, Natural, Sharp, DoubleSharp, DoubleFlat}
use Rattle.meaning.specs.declared.Bump.{Bump}
use Rattle.meaning.specs.Bumps.{bump_of}
use Rattle.meaning.specs.declared.Meaning.{Meaning}
use Rattle.meaning.specs.declared.Meaning.TheVariants.{Dcy, Rup, Cal, Bmp, Flt, Rng, Snc, Fx, Def, Atk, Sus, Lfo, Pv}
use Rattle.meaning.specs.declared.Meaning.TheVariants.{Rdn, Wav, Fm, Rls, Res, ThreeOff, Vol, Tal, End, Hlt, Src}
use Rattle.meaning.specs.declared.Meaning.TheVariants.{Dst, Pw, Tem, Utl, Pnt, Hed, Flg, Ps, Fs, Sca, Vdp, Vrt, Aut}
use Rattle.meaning.specs.declared.Meaning.TheVariants.{Tps, Aux, Pvd, Pvr, Max, Utv, Fc, Rtp, Hld, Ms, Jif, Dtn, Por}
use Rattle.refusals.specs.declared.Reason.TheVariants.{NoPair}
use Rattle.refusals.specs.Numbers.{Outcome, number_of}
use Rattle.refusals.specs.Numbers.Outcome.{accepted, refused}

abbrev pub no_meaning : {A : Type 0} → Outcome A
no_meaning = refused (number_of NoPair) 0

abbrev pub Entry : Type 0 → Type 0
Entry X = ℕ × X

abbrev pub entry : {A : Type 0} → ℕ → A → Entry A
entry k a = (k, a)

abbrev pub lookup : {A : Type 0} → List (Entry A) → ℕ → Outcome A
lookup [] k = no_meaning
lookup (e ∷ es) k = cond (eqb k e.0) (accepted e.1) (lookup es k)

abbrev pub durations : List (Entry Duration)
durations =
    entry 0x01 Whole
    ∷ entry 0x02 Half
    ∷ entry 0x04 Quarter
    ∷ entry 0x08 Eighth
    ∷ entry 0x16 Sixteenth
    ∷ entry 0x32 ThirtySecond
    ∷ entry 0x64 SixtyFourth
    ∷ entry 0xD1 UtilityDuration
    ∷ entry 0xD2 UtilityVoice
    ∷ entry 0xAB AbsolutePitch
    ∷ []

abbrev pub shapes : List (Entry Shape)
shapes = entry 0 Plain ∷ entry 1 Dotted ∷ entry 2 DoubleDotted ∷ entry 3 Triplet ∷ []

abbrev pub ties : List (Entry Bool)
ties = entry 0 false ∷ entry 1 true ∷ []

abbrev pub letters : List (Entry Letter)
letters = entry 0xC C ∷ entry 0xD D ∷ entry 0xE E ∷ entry 0xF F ∷ entry 0x6 G ∷ entry 0xA A ∷ entry 0xB B ∷ []

abbrev pub accidentals : List (Entry Accidental)
accidentals = entry 0xF Flat ∷ entry 0x0 Natural ∷ entry 0x1 Sharp ∷ entry 0x2 DoubleSharp ∷ entry 0xE DoubleFlat ∷ []

abbrev pub as_count : (ℕ → Meaning) → ℕ → Outcome Meaning
as_count m v = accepted (m v)

abbrev pub as_switch : (Bool → Meaning) → ℕ → Outcome Meaning
as_switch m v = cond (leb v 1) (accepted (m (eqb v 1))) no_meaning

abbrev pub as_bump : (Bump → Meaning) → ℕ → Outcome Meaning
as_bump m v = cond (leb v 1) (accepted (m (bump_of v))) no_meaning

abbrev pub bare : Meaning → ℕ → Outcome Meaning
bare m v = cond (eqb v 0) (accepted m) no_meaning

abbrev pub above : (ℤ → Meaning) → ℕ → Outcome Meaning
above m v = accepted (m (sub_ℕ v 0))

abbrev pub below : (ℤ → Meaning) → ℕ → Outcome Meaning
below m v = accepted (m (sub_ℕ 0 v))

abbrev pub unsigned_commands : List (Entry (ℕ → Outcome Meaning))
unsigned_commands =
    entry 0x300 (as_count Dcy)
    ∷ entry 0x301 (as_count Rup)
    ∷ entry 0x302 (as_count Cal)
    ∷ entry 0x303 (as_bump Bmp)
    ∷ entry 0x313 (as_switch Flt)
    ∷ entry 0x323 (as_switch Rng)
    ∷ entry 0x333 (as_switch Snc)
    ∷ entry 0x343 (as_switch Fx)
    ∷ entry 0x306 (as_count Def)
    ∷ entry 0x304 (as_count Atk)
    ∷ entry 0x384 (as_count Sus)
    ∷ entry 0x363 (as_count Lfo)
    ∷ entry 0x373 (as_switch Pv)
    ∷ entry 0x305 (as_count Rdn)
    ∷ entry 0x307 (as_count Wav)
    ∷ entry 0x317 (as_count Fm)
    ∷ entry 0x308 (as_count Rls)
    ∷ entry 0x30A (as_count Res)
    ∷ entry 0x35B (as_switch ThreeOff)
    ∷ entry 0x30E (as_count Vol)
    ∷ entry 0x30F (bare Tal)
    ∷ entry 0x32F (bare End)
    ∷ entry 0x34F (bare Hlt)
    ∷ entry 0x31F (as_count Src)
    ∷ entry 0x38F (as_count Dst)
    ∷ entry 0x202 (as_count Pw)
    ∷ entry 0x206 (as_count Tem)
    ∷ entry 0x216 (as_count Utl)
    ∷ entry 0x226 (as_count Pnt)
    ∷ entry 0x236 (as_count Hed)
    ∷ entry 0x246 (as_count Flg)
    ∷ entry 0x256 (above Ps)
    ∷ entry 0x266 (above Fs)
    ∷ entry 0x26E (above Sca)
    ∷ entry 0x276 (as_count Vdp)
    ∷ entry 0x286 (as_count Vrt)
    ∷ entry 0x296 (above Aut)
    ∷ entry 0x2A6 (above Tps)
    ∷ entry 0x2B6 (as_count Aux)
    ∷ entry 0x2C6 (as_count Pvd)
    ∷ entry 0x2D6 (as_count Pvr)
    ∷ entry 0x2E6 (as_count Max)
    ∷ entry 0x2F6 (as_count Utv)
    ∷ entry 0x20E (as_count Fc)
    ∷ entry 0x22E (above Rtp)
    ∷ entry 0x24E (as_count Hld)
    ∷ entry 0x21E (as_count Ms)
    ∷ entry 0x23E (above Jif)
    ∷ entry 0x20A (above Dtn)
    ∷ entry 0x203 (as_count Por)
    ∷ []

abbrev pub negative_commands : List (Entry (ℕ → Outcome Meaning))
negative_commands =
    entry 0x256 (below Ps)
    ∷ entry 0x266 (below Fs)
    ∷ entry 0x26E (below Sca)
    ∷ entry 0x296 (below Aut)
    ∷ entry 0x2A6 (below Tps)
    ∷ entry 0x22E (below Rtp)
    ∷ entry 0x23E (below Jif)
    ∷ entry 0x20A (below Dtn)
    ∷ []
