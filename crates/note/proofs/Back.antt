-- Laws of a note's two bytes, there and back.
-- pitch_reads              the second byte of a pitch in the tables reads as it
-- written-note_reads       what is written reads back, from two bytes of which the first has low bits 00
-- read-note_writes         what is read is written as the writer does
use Rattle.std.specs.Prelude.{ℕ, ◌+◌, ◌*◌, ◌-◌, ◌/◌, ◌%◌, ◌≤◌, ◌<◌, ◌≡◌, refl, Bool, true, false, not, ◌&&◌, ◌||◌, cond, T, eqb, ltb, Option, Some, None}
use Rattle.std.proofs.Common.{ap, subst, arith, eqb→eq, ltb→lt, lit≤, ne_eqb}
use Rattle.std.proofs.lemmas.Bool.{not-true}
use Rattle.logic.specs.Truth.{both_left}
use Rattle.meaning.specs.declared.Duration.{Duration}
use Rattle.meaning.specs.declared.Duration.TheVariants.{Whole, Half, Quarter, Eighth, Sixteenth, ThirtySecond, SixtyFourth, UtilityDuration, UtilityVoice, AbsolutePitch}
use Rattle.meaning.specs.declared.Shape.{Shape}
use Rattle.meaning.specs.declared.Shape.TheVariants.{Plain, Dotted, DoubleDotted, Triplet}
use Rattle.meaning.specs.declared.Letter.{Letter}
use Rattle.meaning.specs.declared.Letter.TheVariants.{C, D, E, F, G, A, B}
use Rattle.meaning.specs.declared.Accidental.{Accidental}
use Rattle.meaning.specs.declared.Accidental.TheVariants.{Flat, Natural, Sharp, DoubleSharp, DoubleFlat}
use Rattle.meaning.specs.declared.Pitch.{Pitch}
use Rattle.meaning.specs.declared.Tone.{Tone}
use Rattle.meaning.specs.declared.Tone.TheVariants.{Rest, Sounds}
use Rattle.meaning.specs.declared.Note.{Note}
use Rattle.meaning.specs.declared.Bytes.{Bytes}
use Rattle.logic.specs.Every.{every, every_at, all_left, all_right, implied}
use Rattle.meaning.specs.Pitches.{has_accidental, in_tables, double_is_sharp}
use Rattle.meaning.specs.Laws.{octave_low}
use Rattle.note.specs.Reading.{note_of, tone_of, letter_of, accidental_of}
use Rattle.note.specs.Writing.{first_byte, letter_number, accidental_bits, tone_byte, two_bytes, note_spelling}
use Rattle.note.specs.Preferred.{preferred_first, preferred_second}
use Rattle.refusals.specs.Numbers.Outcome.{accepted}
use Rattle.note.specs.Laws.{accidental_low, letter_number-low, pitch_byte}

-- that there is a byte, and that it is this number
abbrev is_byte : Option ℕ → ℕ → Bool
is_byte (Some n) k = eqb n k
is_byte None k = false

byte-is : (x : Option ℕ) (k : ℕ) → T (is_byte x k) → x ≡ Some k
byte-is (Some n) k t = ap Some (eqb→eq n k t)
byte-is None k t = absurd t

-- the byte that is written for what a first byte means, and for what a second means
abbrev first_again : ℕ → Option ℕ
first_again a = first_byte (note_of a 0).duration (note_of a 0).shape (note_of a 0).tied

abbrev second_again : ℕ → Option ℕ
second_again b = tone_byte (tone_of b)

-- what is computed at each byte: the writer's byte for it is the preferred one, for a first byte with low
-- bits 00
abbrev first_test : ℕ → Bool
first_test a = not (eqb (a % 4) 0) || is_byte (first_again a) (preferred_first a)

abbrev second_test : ℕ → Bool
second_test b = is_byte (second_again b) (preferred_second b)

firsts : T (every first_test 256)
firsts = tt

seconds : T (every second_test 256)
seconds = tt

first-again : (a : ℕ) → a < 256 → a % 4 ≡ 0 → first_again a ≡ Some (preferred_first a)
first-again a low e =
    byte-is (first_again a) (preferred_first a)
    (implied (eqb (a % 4) 0) (is_byte (first_again a) (preferred_first a)) (every_at first_test 256 firsts a low) (rw (e)))

second-again : (b : ℕ) → b < 256 → second_again b ≡ Some (preferred_second b)
second-again b low =
    byte-is (second_again b) (preferred_second b) (every_at second_test 256 seconds b low)

-- The note of two bytes, the first with low bits 00, is written as the bytes that the writer has for it.
pub read-note_writes : (a b : ℕ) → a < 256 → b < 256 → a % 4 ≡ 0
    → note_spelling (note_of a b) ≡ accepted (record { first = preferred_first a; second = preferred_second b })
read-note_writes a b lowA lowB e = λ i. two_bytes (first-again a lowA e i) (second-again b lowB i)

-- that a first byte, if there is one, reads as the note it was made of
abbrev FirstReads : Duration → Shape → Bool → Option ℕ → Type 0
FirstReads d s t None = Unit
FirstReads d s t (Some a) = T (eqb (a % 4) 0 && ltb a 256) × (note_of a 0 ≡ record { duration = d; shape = s; tied = t; tone = Rest })

-- one fact for each shape, untied and tied, so for all
each : (P : Shape → Bool → Type 0) → P Plain false × P Plain true → P Dotted false × P Dotted true
    → P DoubleDotted false × P DoubleDotted true → P Triplet false × P Triplet true → (s : Shape) (t : Bool) → P s t
each P p o d r Plain false = p.0
each P p o d r Plain true = p.1
each P p o d r Dotted false = o.0
each P p o d r Dotted true = o.1
each P p o d r DoubleDotted false = d.0
each P p o d r DoubleDotted true = d.1
each P p o d r Triplet false = r.0
each P p o d r Triplet true = r.1

abbrev Reads : Duration → Shape → Bool → Type 0
Reads d s t = FirstReads d s t (first_byte d s t)

first_reads : (d : Duration) (s : Shape) (t : Bool) → Reads d s t
first_reads Whole = each (Reads Whole) ((tt, refl), (tt, refl)) ((tt, refl), (tt, refl)) ((tt, refl), (tt, refl)) ((tt, refl), (tt, refl))
first_reads Half = each (Reads Half) ((tt, refl), (tt, refl)) ((tt, refl), (tt, refl)) ((tt, refl), (tt, refl)) ((tt, refl), (tt, refl))
first_reads Quarter = each (Reads Quarter) ((tt, refl), (tt, refl)) ((tt, refl), (tt, refl)) ((tt, refl), (tt, refl)) ((tt, refl), (tt, refl))
first_reads Eighth = each (Reads Eighth) ((tt, refl), (tt, refl)) ((tt, refl), (tt, refl)) ((tt, refl), (tt, refl)) ((tt, refl), (tt, refl))
first_reads Sixteenth = each (Reads Sixteenth) ((tt, refl), (tt, refl)) ((tt, refl), (tt, refl)) ((tt, refl), (tt, refl)) ((tt, refl), (tt, refl))
first_reads ThirtySecond = each (Reads ThirtySecond) ((tt, refl), (tt, refl)) ((tt, refl), (tt, refl)) ((tt, refl), (tt, refl)) ((tt, refl), (tt, refl))
first_reads SixtyFourth = each (Reads SixtyFourth) ((tt, refl), (tt, refl)) (tt, tt) (tt, tt) ((tt, refl), (tt, refl))
first_reads UtilityDuration = each (Reads UtilityDuration) ((tt, refl), (tt, refl)) (tt, tt) (tt, tt) ((tt, refl), (tt, refl))
first_reads UtilityVoice = each (Reads UtilityVoice) ((tt, refl), (tt, refl)) (tt, tt) (tt, tt) (tt, tt)
first_reads AbsolutePitch = each (Reads AbsolutePitch) ((tt, refl), tt) (tt, tt) (tt, tt) (tt, tt)

-- what a letter and an accidental are read from
letter_back : (l : Letter) → letter_of (letter_number l) ≡ l
letter_back C = refl
letter_back D = refl
letter_back E = refl
letter_back F = refl
letter_back G = refl
letter_back A = refl
letter_back B = refl

letter_some : (l : Letter) → 1 ≤ letter_number l
letter_some C = lit≤ tt
letter_some D = lit≤ tt
letter_some E = lit≤ tt
letter_some F = lit≤ tt
letter_some G = lit≤ tt
letter_some A = lit≤ tt
letter_some B = lit≤ tt

accidental_high : (a : Accidental) → accidental_bits a % 64 ≡ 0
accidental_high Flat = refl
accidental_high Natural = refl
accidental_high Sharp = refl
accidental_high DoubleSharp = refl
accidental_high DoubleFlat = refl

accidental_back : (l : Letter) (a : Accidental) → has_accidental l a ≡ true → accidental_of (accidental_bits a / 64) l ≡ a
accidental_back l Flat e = refl
accidental_back l Natural e = refl
accidental_back l Sharp e = refl
accidental_back l DoubleSharp e = rw (e)
accidental_back l DoubleFlat e = rw (not-true (double_is_sharp l) e)

-- the octave's three bits
octave_bits : (b top middle low : ℕ) → b ≡ 64 * top + 8 * middle + low → middle ≤ 7 → low ≤ 7 → b / 8 % 8 ≡ middle
octave_bits b top middle low e m l = omega arith

-- The second byte of a pitch in the tables reads as that pitch, and is below 256.
pub pitch_reads : (p : Pitch) → in_tables p ≡ true → (tone_of (pitch_byte p) ≡ Sounds p) × (pitch_byte p < 256)
pitch_reads p e =
    let octave = octave_low p e in
    let high = accidental_high p.accidental in
    let bits = accidental_low p.accidental in
    let letter = letter_number-low p.letter in
    let some = letter_some p.letter in
    let number : pitch_byte p % 8 ≡ letter_number p.letter = omega arith in
    let top : pitch_byte p / 64 ≡ accidental_bits p.accidental / 64 = omega arith in
    let bits-5-3 = octave_bits (pitch_byte p) (accidental_bits p.accidental / 64) (7 - p.octave) _ (omega arith) (omega arith) letter in
    let middle : 7 - pitch_byte p / 8 % 8 ≡ p.octave = omega (arith, bits-5-3) in
    let sounds : eqb (letter_number p.letter) 0 ≡ false = ne_eqb (letter_number p.letter) 0 (λ z. omega arith) in
    let has = accidental_back p.letter p.accidental (both_left (has_accidental p.letter p.accidental) _ e) in
    (rw (number, top, middle, sounds, letter_back p.letter, has), omega arith)

tone-taken : (t : Bool) (n b : ℕ) → cond t (Some n) None ≡ Some b → (t ≡ true) × (n ≡ b)
tone-taken true n b e = (refl, cc)
tone-taken false n b e = absurd (let z : ◌≡◌ {A = ℕ} 0 1 = cc in omega arith)

second_reads : (t : Tone) (b : ℕ) → tone_byte t ≡ Some b → (tone_of b ≡ t) × (b < 256)
second_reads Rest b e = let is : 0 ≡ b = cc in rw (← is) (refl, omega arith)
second_reads (Sounds p) b e = let took = tone-taken (in_tables p) (pitch_byte p) b e in rw (← took.1) (pitch_reads p took.0)

both-taken : (x y : Option ℕ) (a b : ℕ) → two_bytes x y ≡ accepted (record { first = a; second = b }) → (x ≡ Some a) × (y ≡ Some b)
both-taken None y a b e = absurd (let z : ◌≡◌ {A = ℕ} 0 1 = cc in omega arith)
both-taken (Some p) None a b e = absurd (let z : ◌≡◌ {A = ℕ} 0 1 = cc in omega arith)
both-taken (Some p) (Some q) a b e =
    let same : ◌≡◌ {A = Bytes} (record { first = p; second = q }) (record { first = a; second = b }) = cc in
    (ap (λ r. Some r.first) same, ap (λ r. Some r.second) same)

-- Two bytes that a note is written as are below 256, the first has low bits 00, and they read as that note.
pub written-note_reads : (n : Note) (a b : ℕ) → note_spelling n ≡ accepted (record { first = a; second = b })
    → (a % 4 ≡ 0) × (note_of a b ≡ n) × (a < 256) × (b < 256)
written-note_reads n a b e =
    let took = both-taken (first_byte n.duration n.shape n.tied) (tone_byte n.tone) a b e in
    let r = subst (FirstReads n.duration n.shape n.tied) took.0 (first_reads n.duration n.shape n.tied) in
    let w = second_reads n.tone b took.1 in
    let same : note_of a b ≡ n = λ i. record { duration = (r.1 i).duration; shape = (r.1 i).shape; tied = (r.1 i).tied; tone = w.0 i } in
    (eqb→eq (a % 4) 0 (all_left (eqb (a % 4) 0) (ltb a 256) r.0), same, ltb→lt a 256 (all_right (eqb (a % 4) 0) (ltb a 256) r.0), w.1)
