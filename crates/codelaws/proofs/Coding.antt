-- Each meaning that is written has a code of 32 bits, and the code decodes to that meaning.
-- unsigned_code, negative_code   the code of a command's number and value, taken apart
-- room    whether a code's digits have room for a command's number and its values
-- count-coded, fixed-coded, signed-coded, note-coded   a command of any value, of few, with a sign; a note
-- coded   so for every meaning that is written
use Prim.Native.Nat.{ℕ, ◌+◌, ◌*◌, ◌-◌, ◌/◌, ◌%◌, ◌≤◌, ◌<◌}
use mathlib.Core.Path.{◌≡◌, refl, ◌∙◌, ap}
use mathlib.Core.Bool.{Bool, true, false, ◌&&◌}
use native.Mathlib.Omega.{arith}
use lib.Dec.{leb, ltb, lit≤, lit<}
use lib.IntN.{ℤ, pos, negsuc, sub_ℕ}
use borrow.Author.Tests.{ne_eqb, leb-true, ltb-true}
use Rattle.logic.specs.Truth.{both}
use Rattle.refusals.specs.Numbers.Outcome.{accepted}
use Rattle.meaning.specs.declared.Duration.{Duration}
use Rattle.meaning.specs.declared.Duration.TheVariants.{Whole, Half, Quarter, Eighth, Sixteenth, ThirtySecond}
use Rattle.meaning.specs.declared.Duration.TheVariants.{SixtyFourth, UtilityDuration, UtilityVoice, AbsolutePitch}
use Rattle.meaning.specs.declared.Shape.{Shape}
use Rattle.meaning.specs.declared.Shape.TheVariants.{Plain, Dotted, DoubleDotted, Triplet}
use Rattle.meaning.specs.declared.Letter.{Letter}
use Rattle.meaning.specs.declared.Letter.TheVariants.{C, D, E, F, G, A, B}
use Rattle.meaning.specs.declared.Accidental.{Accidental}
use Rattle.meaning.specs.declared.Accidental.TheVariants.{Flat, Natural, Sharp, DoubleSharp, DoubleFlat}
use Rattle.meaning.specs.declared.Tone.{Tone}
use Rattle.meaning.specs.declared.Tone.TheVariants.{Rest, Sounds}
use Rattle.meaning.specs.declared.Note.{Note}
use Rattle.meaning.specs.declared.Bump.TheVariants.{Up, Down}
use Rattle.meaning.specs.declared.Meaning.{Meaning}
use Rattle.meaning.specs.declared.Meaning.TheVariants as M
use Rattle.meaning.specs.declared.Bytes.{Bytes}
use Rattle.pair.specs.Pairs.{spelling_of}
use Rattle.codes.specs.Coding.{count, signed, duration_digits, shape_digit, tie_digit, letter_digit, accidental_digit, tone_digits, note_code, code_of}
use Rattle.decoding.specs.Tables.{lookup, durations, shapes, ties, letters, accidentals, above, below, unsigned_commands, negative_commands}
use Rattle.decoding.specs.Decoding.{tone_at, command_at, decoded}
use Rattle.codelaws.specs.Statements.{Coded}
use Rattle.codelaws.proofs.Decoding.{up, down}
use Rattle.codelaws.proofs.Sizes.{counted-small, phrase-small, destination-small, alone-small, joined_small}
use Rattle.codelaws.proofs.Sizes.{tempo-small, SmallValue, byte_small, jif-small, dtn-small, tps-small, rtp-small}
use Rattle.codelaws.proofs.Sizes.{SmallTone, tone-small}

-- the last hex digit of a number with one more digit
digit-0 : (k : ℕ) → k * 0x10 % 0x10 ≡ 0
digit-0 k = omega arith

digit-1 : (k : ℕ) → (k * 0x10 + 1) % 0x10 ≡ 1
digit-1 k = omega arith

module _ (id v : ℕ) (least : 0x200 ≤ id) (most : id < 0x400) (small : v ≤ 65535) where
  pub unsigned_code : decoded (count id v) ≡ command_at unsigned_commands id v
  unfolding decoded
  unsigned_code =
      let n = count id v in
      let at : n / 0x100000 ≡ id = omega arith in
      let value : n % 0x10000 ≡ v = omega arith in
      let above : n / 0x10000 ≡ id * 0x10 = omega arith in
      rw (ne_eqb (n / 0x10000000) 1 (λ e. omega arith), above, digit-0 id, at, value)

  pub negative_code : (v ≡ 0 → ⊥) → decoded (id * 0x100000 + 0x10000 + v) ≡ command_at negative_commands id v
  unfolding decoded
  negative_code h =
      let n = id * 0x100000 + 0x10000 + v in
      let at : n / 0x100000 ≡ id = omega arith in
      let value : n % 0x10000 ≡ v = omega arith in
      let above : n / 0x10000 ≡ id * 0x10 + 1 = omega arith in
      rw (ne_eqb (n / 0x10000000) 1 (λ e. omega arith), above, digit-1 id, at, value, ne_eqb v 0 h)

-- a code's digits have room for a command's number and for values up to this one
abbrev room : ℕ → ℕ → Bool
room id most = leb 0x200 id && (ltb id 0x400 && leb most 65535)

roomy : (id most : ℕ) → room id most ≡ true → (0x200 ≤ id) × (id < 0x400) × (most ≤ 65535)
roomy id most e =
    let low = both (leb 0x200 id) (ltb id 0x400 && leb most 65535) e in
    let high = both (ltb id 0x400) (leb most 65535) low.1 in
    (leb-true 0x200 id low.0, ltb-true id 0x400 high.0, leb-true most 65535 high.1)

pub count-coded : {m : Meaning} {most : ℕ} (id v : ℕ) → v ≤ most → room id most ≡ true → code_of m ≡ count id v → command_at unsigned_commands id v ≡ accepted m → Coded m
count-coded {m} {most} id v small fits is means =
    let r = roomy id most fits in
    record { low = omega (arith, is); back = ap decoded is ∙ unsigned_code id v r.0 r.1 (omega arith) ∙ means }

-- a command whose value is one of few, or none
fixed-coded : {m : Meaning} (id v : ℕ) → room id v ≡ true → code_of m ≡ count id v → command_at unsigned_commands id v ≡ accepted m → Coded m
fixed-coded id v = count-coded {most = v} id v (omega arith)

pub signed-coded : (m : ℤ → Meaning) (id : ℕ) (z : ℤ) → SmallValue z → room id 0 ≡ true → ((y : ℤ) → code_of (m y) ≡ signed id y)
    → ((v : ℕ) → command_at unsigned_commands id v ≡ above m v) → ((v : ℕ) → command_at negative_commands id v ≡ below m v) → Coded (m z)
signed-coded m id (pos n) small fits is plus minus =
    let r = roomy id 0 fits in
    record {
      low = omega (arith, is (pos n));
      back = ap decoded (is (pos n)) ∙ unsigned_code id n r.0 r.1 small ∙ plus n ∙ ap (λ (y : ℤ). accepted (m y)) (up n);
    }
signed-coded m id (negsuc n) small fits is plus minus =
    let r = roomy id 0 fits in
    let last : n + 1 - 1 ≡ n = omega arith in
    let value : sub_ℕ 0 (n + 1) ≡ negsuc n = down (n + 1) (λ e. omega arith) ∙ ap negsuc last in
    record {
      low = omega (arith, is (negsuc n));
      back =
          ap decoded (is (negsuc n)) ∙ negative_code id (n + 1) r.0 r.1 small (λ e. omega arith) ∙ minus (n + 1)
          ∙ ap (λ (y : ℤ). accepted (m y)) value;
    }

duration-back : (d : Duration) → (lookup durations (duration_digits d) ≡ accepted d) × (duration_digits d ≤ 255)
duration-back Whole = (refl, lit≤ tt)
duration-back Half = (refl, lit≤ tt)
duration-back Quarter = (refl, lit≤ tt)
duration-back Eighth = (refl, lit≤ tt)
duration-back Sixteenth = (refl, lit≤ tt)
duration-back ThirtySecond = (refl, lit≤ tt)
duration-back SixtyFourth = (refl, lit≤ tt)
duration-back UtilityDuration = (refl, lit≤ tt)
duration-back UtilityVoice = (refl, lit≤ tt)
duration-back AbsolutePitch = (refl, lit≤ tt)

shape-back : (s : Shape) → (lookup shapes (shape_digit s) ≡ accepted s) × (shape_digit s ≤ 15)
shape-back Plain = (refl, lit≤ tt)
shape-back Dotted = (refl, lit≤ tt)
shape-back DoubleDotted = (refl, lit≤ tt)
shape-back Triplet = (refl, lit≤ tt)

tie-back : (t : Bool) → (lookup ties (tie_digit t) ≡ accepted t) × (tie_digit t ≤ 15)
tie-back false = (refl, lit≤ tt)
tie-back true = (refl, lit≤ tt)

letter_back : (l : Letter) → (lookup letters (letter_digit l) ≡ accepted l) × (0 < letter_digit l) × (letter_digit l ≤ 15)
letter_back C = (refl, lit< tt, lit≤ tt)
letter_back D = (refl, lit< tt, lit≤ tt)
letter_back E = (refl, lit< tt, lit≤ tt)
letter_back F = (refl, lit< tt, lit≤ tt)
letter_back G = (refl, lit< tt, lit≤ tt)
letter_back A = (refl, lit< tt, lit≤ tt)
letter_back B = (refl, lit< tt, lit≤ tt)

accidental_back : (a : Accidental) → (lookup accidentals (accidental_digit a) ≡ accepted a) × (accidental_digit a ≤ 15)
accidental_back Flat = (refl, lit≤ tt)
accidental_back Natural = (refl, lit≤ tt)
accidental_back Sharp = (refl, lit≤ tt)
accidental_back DoubleSharp = (refl, lit≤ tt)
accidental_back DoubleFlat = (refl, lit≤ tt)

tone-back : (o : Tone) → SmallTone o → (tone_at (tone_digits o) ≡ accepted o) × (tone_digits o < 0x1000)
tone-back Rest small = (refl, lit< tt)
tone-back (Sounds p) small =
    let k = tone_digits (Sounds p) in
    let l = letter_back p.letter in
    let a = accidental_back p.accidental in
    let high : k / 0x100 ≡ letter_digit p.letter = omega arith in
    let middle : k / 0x10 % 0x10 ≡ accidental_digit p.accidental = omega arith in
    let last : k % 0x10 ≡ p.octave = omega arith in
    (rw (ne_eqb k 0 (λ e. omega arith), high, l.0, middle, a.0, last), omega arith)

pub note-coded : (n : Note) → SmallTone n.tone → Coded (M.Note n)
unfolding decoded
note-coded n small =
    let k = note_code n in
    let d = duration-back n.duration in
    let s = shape-back n.shape in
    let t = tie-back n.tied in
    let o = tone-back n.tone small in
    let note : k / 0x10000000 ≡ 1 = omega arith in
    let duration : k / 0x100000 % 0x100 ≡ duration_digits n.duration = omega arith in
    let shape : k / 0x10000 % 0x10 ≡ shape_digit n.shape = omega arith in
    let tie : k / 0x1000 % 0x10 ≡ tie_digit n.tied = omega arith in
    let tone : k % 0x1000 ≡ tone_digits n.tone = omega arith in
    record { low = omega arith; back = rw (note, duration, d.0, shape, s.0, tie, t.0, tone, o.0) }

pub coded : (m : Meaning) {y : Bytes} → spelling_of m ≡ accepted y → Coded m
coded (M.Note n) w = note-coded n (tone-small n w)
coded (M.Dcy v) w = count-coded 0x300 v (counted-small v 15 0x00 16 w) refl refl refl
coded (M.Rup v) w = count-coded 0x301 v (counted-small v 31 0x01 8 w) refl refl refl
coded (M.Cal v) w = count-coded 0x302 v (phrase-small v 0x02 0x8B w) refl refl refl
coded (M.Bmp Up) w = fixed-coded 0x303 0 refl refl refl
coded (M.Bmp Down) w = fixed-coded 0x303 1 refl refl refl
coded (M.Flt false) w = fixed-coded 0x313 0 refl refl refl
coded (M.Flt true) w = fixed-coded 0x313 1 refl refl refl
coded (M.Rng false) w = fixed-coded 0x323 0 refl refl refl
coded (M.Rng true) w = fixed-coded 0x323 1 refl refl refl
coded (M.Snc false) w = fixed-coded 0x333 0 refl refl refl
coded (M.Snc true) w = fixed-coded 0x333 1 refl refl refl
coded (M.Fx false) w = fixed-coded 0x343 0 refl refl refl
coded (M.Fx true) w = fixed-coded 0x343 1 refl refl refl
coded (M.Def v) w = count-coded 0x306 v (phrase-small v 0x06 0x83 w) refl refl refl
coded (M.Atk v) w = count-coded 0x304 v (counted-small v 15 0x04 8 w) refl refl refl
coded (M.Sus v) w = count-coded 0x384 v (counted-small v 15 0x84 8 w) refl refl refl
coded (M.Lfo v) w = count-coded 0x363 v (counted-small v 1 0x63 8 w) refl refl refl
coded (M.Pv false) w = fixed-coded 0x373 0 refl refl refl
coded (M.Pv true) w = fixed-coded 0x373 1 refl refl refl
coded (M.Rdn v) w = count-coded 0x305 v (counted-small v 31 0x05 8 w) refl refl refl
coded (M.Wav v) w = count-coded 0x307 v (counted-small v 7 0x07 32 w) refl refl refl
coded (M.Fm v) w = count-coded 0x317 v (counted-small v 7 0x17 32 w) refl refl refl
coded (M.Rls v) w = count-coded 0x308 v (counted-small v 15 0x08 16 w) refl refl refl
coded (M.Res v) w = count-coded 0x30A v (counted-small v 15 0x0A 16 w) refl refl refl
coded (M.ThreeOff false) w = fixed-coded 0x35B 0 refl refl refl
coded (M.ThreeOff true) w = fixed-coded 0x35B 1 refl refl refl
coded (M.Vol v) w = count-coded 0x30E v (counted-small v 15 0x0E 16 w) refl refl refl
coded M.Tal w = fixed-coded 0x30F 0 refl refl refl
coded M.End w = fixed-coded 0x32F 0 refl refl refl
coded M.Hlt w = fixed-coded 0x34F 0 refl refl refl
coded (M.Src v) w = count-coded 0x31F v (counted-small v 2 0x1F 32 w) refl refl refl
coded (M.Dst v) w = count-coded 0x38F v (destination-small v w) refl refl refl
coded (M.Pw v) w = count-coded 0x202 v (joined_small v 4095 0x02 16 w) refl refl refl
coded (M.Tem v) w = count-coded 0x206 v (tempo-small v w) refl refl refl
coded (M.Utl v) w = count-coded 0x216 v (alone-small v 0x16 255 w) refl refl refl
coded (M.Pnt v) w = count-coded 0x226 v (alone-small v 0x26 255 w) refl refl refl
coded (M.Hed v) w = count-coded 0x236 v (alone-small v 0x36 255 w) refl refl refl
coded (M.Flg v) w = count-coded 0x246 v (alone-small v 0x46 255 w) refl refl refl
coded (M.Ps z) w = signed-coded M.Ps 0x256 z (byte_small 0x56 z 128 127 (lit≤ tt) (lit≤ tt) w) refl (λ y. refl)
    (λ v. refl) (λ v. refl)
coded (M.Fs z) w = signed-coded M.Fs 0x266 z (byte_small 0x66 z 128 127 (lit≤ tt) (lit≤ tt) w) refl (λ y. refl)
    (λ v. refl) (λ v. refl)
coded (M.Sca z) w = signed-coded M.Sca 0x26E z (byte_small 0x6E z 7 7 (lit≤ tt) (lit≤ tt) w) refl (λ y. refl)
    (λ v. refl) (λ v. refl)
coded (M.Vdp v) w = count-coded 0x276 v (alone-small v 0x76 127 w) refl refl refl
coded (M.Vrt v) w = count-coded 0x286 v (alone-small v 0x86 255 w) refl refl refl
coded (M.Aut z) w = signed-coded M.Aut 0x296 z (byte_small 0x96 z 128 127 (lit≤ tt) (lit≤ tt) w) refl (λ y. refl)
    (λ v. refl) (λ v. refl)
coded (M.Tps z) w = signed-coded M.Tps 0x2A6 z (tps-small z w) refl (λ y. refl) (λ v. refl) (λ v. refl)
coded (M.Aux v) w = count-coded 0x2B6 v (alone-small v 0xB6 255 w) refl refl refl
coded (M.Pvd v) w = count-coded 0x2C6 v (alone-small v 0xC6 127 w) refl refl refl
coded (M.Pvr v) w = count-coded 0x2D6 v (alone-small v 0xD6 127 w) refl refl refl
coded (M.Max v) w = count-coded 0x2E6 v (alone-small v 0xE6 255 w) refl refl refl
coded (M.Utv v) w = count-coded 0x2F6 v (alone-small v 0xF6 255 w) refl refl refl
coded (M.Fc v) w = count-coded 0x20E v (alone-small v 0x0E 255 w) refl refl refl
coded (M.Rtp z) w = signed-coded M.Rtp 0x22E z (rtp-small z w) refl (λ y. refl) (λ v. refl) (λ v. refl)
coded (M.Hld v) w = count-coded 0x24E v (alone-small v 0x4E 255 w) refl refl refl
coded (M.Ms v) w = count-coded 0x21E v (joined_small v 1023 0x1E 64 w) refl refl refl
coded (M.Jif z) w = signed-coded M.Jif 0x23E z (jif-small z w) refl (λ y. refl) (λ v. refl) (λ v. refl)
coded (M.Dtn z) w = signed-coded M.Dtn 0x20A z (dtn-small z w) refl (λ y. refl) (λ v. refl) (λ v. refl)
coded (M.Por v) w = count-coded 0x203 v (joined_small v 16383 0x03 4 w) refl refl refl
