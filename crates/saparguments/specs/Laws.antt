-- Laws of arguments, of each kind.
-- Stops      an argument is the same in a line as in its file, where 0D follows the line
-- Within     an argument that fits lies within the bytes
-- good-once, none-good   an argument that fits is known by its length and its value; it is one
-- good_if, begins-long, digits-within   what a test shows, and how many bytes there are
-- decimal_stop .. text_stop, decimal-within .. text-within   so for each kind
-- AtMost     the value of an argument is at most a number
-- decimal-most .. text-most   so for each kind; decimal-least, letter_type   what else is known of two
use Rattle.std.specs.Prelude.{Option, None, ℕ, ◌+◌, ◌^◌, ◌<◌, ◌≤◌, ◌≡◌, refl, Bool, true, false, cond, ◌&&◌, List, [], ◌∷◌, ◌++◌, length, get_or, drop, leb, eqb}
use Rattle.std.proofs.Common.{ap, subst, arith, length-drop, leb-true, eqb-true}
use Rattle.logic.specs.Cases.{cases}
use Rattle.logic.specs.Truth.{both}
use Rattle.characters.specs.Characters.{is_text_character, leading, rest, begins, digits_of}
use Rattle.characters.specs.Laws.{leading_length, leading_stop, rest_stop, begins_stop, digits_stop, digits-below}
use Rattle.saparguments.specs.declared.Argument.{Argument}
use Rattle.saparguments.specs.Arguments.{good, unpadded, decimal_at, address_at, covox_at, is_type, letter_at, text_at}

abbrev pub Stops : (List ℕ → Option Argument) → Type 0
Stops k = (t a : List ℕ) → k (a ++ 0x0D ∷ t) ≡ k a

abbrev pub Within : (List ℕ → Option Argument) → Type 0
Within k = (s : List ℕ) (n v : ℕ) → k s ≡ good n v → n ≤ length s

-- An argument that fits is known by its length and its value.
pub good-once : (n v m w : ℕ) → good n v ≡ good m w → (n ≡ m) × (v ≡ w)
good-once n v m w e =
    let same : ◌≡◌ {A = Argument} (record { len = n; value = v }) (record { len = m; value = w }) = cc in
    (ap (λ (a : Argument). a.len) same, ap (λ (a : Argument). a.value) same)

-- An argument that fits is one.
pub none-good : {A : Type 0} (n v : ℕ) → None ≡ good n v → A
none-good n v e = absurd (let z : ◌≡◌ {A = ℕ} 0 1 = cc in omega arith)

-- What an argument that a test lets pass shows.
pub good_if : (b : Bool) (n v m w : ℕ) → cond b (good n v) None ≡ good m w → (b ≡ true) × (n ≡ m) × (v ≡ w)
good_if true n v m w e = let same = good-once n v m w e in (refl, same.0, same.1)
good_if false n v m w e = none-good m w e

-- Bytes that begin with a byte other than 0 are not empty.
pub begins-long : (b : ℕ) (s : List ℕ) → 0 < b → begins b s ≡ true → 0 < length s
begins-long b [] h e = absurd (omega (arith, eqb-true 0 b e))
begins-long b (x ∷ xs) h e = omega arith

-- The digits at the front of bytes are at most as many as the bytes.
pub digits-within : (base : ℕ) (s : List ℕ) → (digits_of base s).len ≤ length s
unfolding digits_of
digits-within base s = leading_length _ s

-- A decimal number stops where its line does.
pub decimal_stop : (low high : ℕ) → Stops (decimal_at low high)
decimal_stop low high t a = rw (digits_stop 0x0D t 10 refl a, begins_stop 0x0D t 0x30 refl refl a)

-- A decimal number lies within the bytes.
pub decimal-within : (low high : ℕ) → Within (decimal_at low high)
decimal-within low high s n v e =
    let d = digits_of 10 s in
    omega (arith, digits-within 10 s, (good_if (unpadded d s && leb low d.value && leb d.value high) d.len d.value n v e).1)

-- An address stops where its line does.
pub address_stop : Stops address_at
address_stop t a = rw (digits_stop 0x0D t 16 refl a)

-- An address lies within the bytes.
pub address-within : Within address_at
address-within s n v e = omega (arith, digits-within 16 s, (good_if (eqb (digits_of 16 s).len 4) (digits_of 16 s).len (digits_of 16 s).value n v e).1)

-- COVOX's address stops where its line does.
pub covox_stop : Stops covox_at
covox_stop t a = rw (digits_stop 0x0D t 16 refl a)

-- COVOX's address lies within the bytes.
pub covox_within : Within covox_at
covox_within s n v e =
    let d = digits_of 16 s in
    omega (arith, digits-within 16 s, (good_if (eqb d.len 4 && eqb d.value 0xD600) d.len d.value n v e).1)

-- A type's letter stops where its line does.
pub letter_stop : Stops letter_at
letter_stop t [] = refl
letter_stop t (b ∷ bs) = refl

-- A type's letter lies within the bytes.
pub letter_within : Within letter_at
letter_within [] n v e = none-good n v e
letter_within (b ∷ bs) n v e = omega (arith, (good_if (is_type b) 1 b n v e).1)

-- A text stops where its line does.
pub text_stop : Stops text_at
text_stop t [] = refl
text_stop t (b ∷ bs) =
    rw (rest_stop 0x0D t is_text_character refl bs, begins_stop 0x0D t 0x22 refl refl (rest is_text_character bs), leading_stop 0x0D t is_text_character refl bs)

-- A text lies within the bytes.
pub text-within : Within text_at
text-within s n v e =
    let body = leading is_text_character (drop 1 s) in
    let g = good_if _ (length body + 2) (length body) n v e in
    let tests = both (begins 0x22 s && begins 0x22 (drop (length body) (drop 1 s))) (leb (length body) 120) g.0 in
    let marks = both (begins 0x22 s) (begins 0x22 (drop (length body) (drop 1 s))) tests.0 in
    omega (
      arith,
      g.1,
      begins-long 0x22 (drop (length body) (drop 1 s)) (omega arith) marks.1,
      length-drop (length body) (drop 1 s),
      length-drop 1 s,
    )

abbrev pub AtMost : ℕ → (List ℕ → Option Argument) → Type 0
AtMost most k = (s : List ℕ) (n v : ℕ) → k s ≡ good n v → v ≤ most

-- A decimal number is at most its greatest.
pub decimal-most : (low high : ℕ) → AtMost high (decimal_at low high)
decimal-most low high s n v e =
    let d = digits_of 10 s in
    let g = good_if (unpadded d s && leb low d.value && leb d.value high) d.len d.value n v e in
    omega (arith, g.2, leb-true d.value high (both (unpadded d s && leb low d.value) (leb d.value high) g.0).1)

-- A decimal number is at least its least.
pub decimal-least : (low high : ℕ) (s : List ℕ) (n v : ℕ) → decimal_at low high s ≡ good n v → low ≤ v
decimal-least low high s n v e =
    let d = digits_of 10 s in
    let g = good_if (unpadded d s && leb low d.value && leb d.value high) d.len d.value n v e in
    let tests = both (unpadded d s && leb low d.value) (leb d.value high) g.0 in
    omega (arith, g.2, leb-true low d.value (both (unpadded d s) (leb low d.value) tests.0).1)

-- An address is at most $FFFF.
pub address-most : AtMost 0xFFFF address_at
address-most s n v e =
    let d = digits_of 16 s in
    let g = good_if (eqb d.len 4) d.len d.value n v e in
    omega (arith, g.2, subst (λ (k : ℕ). d.value < 16 ^ k) (eqb-true d.len 4 g.0) (digits-below 16 s))

-- COVOX's address is at most D600.
pub covox_most : AtMost 0xD600 covox_at
covox_most s n v e =
    let d = digits_of 16 s in
    let g = good_if (eqb d.len 4 && eqb d.value 0xD600) d.len d.value n v e in
    omega (arith, g.2, eqb-true d.value 0xD600 (both (eqb d.len 4) (eqb d.value 0xD600) g.0).1)

-- A type's letter is one of five.
pub letter_type : (s : List ℕ) (n v : ℕ) → letter_at s ≡ good n v → is_type v ≡ true
letter_type s n v e = let g = good_if (is_type (get_or s 0 0)) 1 (get_or s 0 0) n v e in subst (λ (b : ℕ). is_type b ≡ true) g.2 g.0

-- A text has at most 120 characters.
pub text-most : AtMost 120 text_at
text-most s n v e =
    let k = length (leading is_text_character (drop 1 s)) in
    let opened = begins 0x22 s in
    let closed = begins 0x22 (rest is_text_character (drop 1 s)) in
    let g = good_if (opened && closed && leb k 120) (k + 2) k n v e in
    omega (arith, g.2, leb-true k 120 (both (opened && closed) (leb k 120) g.0).1)

-- A type's letter is at most S.
pub letter_most : AtMost 0x53 letter_at
letter_most s n v e =
    let t = letter_type s n v e in
    cases (eqb v 0x42) (λ p. omega (arith, eqb-true v 0x42 p))
    (λ p. cases (eqb v 0x43) (λ q. omega (arith, eqb-true v 0x43 q))
    (λ q. cases (eqb v 0x44) (λ r. omega (arith, eqb-true v 0x44 r))
    (λ r. cases (eqb v 0x53) (λ k. omega (arith, eqb-true v 0x53 k)) (λ k. omega (arith, eqb-true v 0x52 (rw (p, q, r, k) at t))))))
