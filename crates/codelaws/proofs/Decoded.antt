-- Decoding gives back what was coded, for every number: a note digit by digit, a command by the tables.
-- found                     what holds of each entry of a table holds of what is found
-- after-part, after-entry   so of what comes after it
-- durations-right to accidentals-right, tone-found, note-right   a note, digit by digit
-- unsigned_right, negative_right   a command, by the tables' entries
-- decodes                   so for every number
use Prim.Native.Nat.{ℕ, ◌+◌, ◌*◌, ◌/◌, ◌%◌, ◌<◌}
use mathlib.Core.Path.{◌≡◌, refl, sym, subst}
use mathlib.Core.List.{List, [], ◌∷◌}
use native.Mathlib.Omega.{arith}
use lib.Dec.{eqb}
use borrow.Author.Tests.{eqb-true, eqb-false}
use Rattle.logic.specs.Cases.{cases}
use Rattle.refusals.specs.Numbers.{Outcome}
use Rattle.refusals.specs.Numbers.Outcome.{accepted, refused}
use Rattle.refusals.specs.Tests.{and_then}
use Rattle.meaning.specs.declared.Meaning.{Meaning}
use Rattle.meaning.specs.declared.Meaning.TheVariants as M
use Rattle.codes.specs.Coding.{duration_digits, shape_digit, tie_digit, letter_digit, accidental_digit, tone_digits, code_of}
use Rattle.decoding.specs.Tables.{Entry, lookup, durations, shapes, ties, letters, accidentals, unsigned_commands, negative_commands}
use Rattle.decoding.specs.Decoding.{tone_at, note_at, command_at, decoded}
use Rattle.logic.specs.Facts.{◌and◌}
use Rattle.codelaws.proofs.Decoding.{Each, Found, Is, Decodes, RightFor, Any, NotZero}
use Rattle.codelaws.proofs.Decoding.{switched-right, bumped-right, bare-right, above-right, below_right}

found : {A : Type 0} (P : A → ℕ → Type 0) (es : List (Entry A)) (k : ℕ) → Each P es → Found P k (lookup es k)
found P [] k h = (refl, refl)
found P (e ∷ es) k h =
    cases (eqb k e.0) (λ q. rw q (subst (P e.1) (sym (eqb-true k e.0 q)) h.0)) (λ q. rw q (found P es k h.1))

-- what comes after a part that was found; after one that a table has
module _ {A B : Type 0} (P : A → ℕ → Type 0) (Q : B → ℕ → Type 0) where
  after-part : (o : Outcome A) (k n : ℕ) (g : A → Outcome B) → Found P k o → ((a : A) → P a k → Found Q n (g a)) → Found Q n (and_then o g)
  after-part (accepted a) k n g p h = h a p
  after-part (refused number place) k n g p h = p

  after-entry : (es : List (Entry A)) (k n : ℕ) (g : A → Outcome B) → Each P es → ((a : A) → P a k → Found Q n (g a)) → Found Q n (and_then (lookup es k) g)
  after-entry es k n g each h = after-part (lookup es k) k n g (found P es k each) h

durations-right : Each (Is duration_digits) durations
durations-right = refl and refl and refl and refl and refl and refl and refl and refl and refl and refl and tt

shapes-right : Each (Is shape_digit) shapes
shapes-right = refl and refl and refl and refl and tt

ties-right : Each (Is tie_digit) ties
ties-right = refl and refl and tt

letters-right : Each (Is letter_digit) letters
letters-right = refl and refl and refl and refl and refl and refl and refl and tt

accidentals-right : Each (Is accidental_digit) accidentals
accidentals-right = refl and refl and refl and refl and refl and tt

tone-found : (k : ℕ) → k < 0x1000 → Found (Is tone_digits) k (tone_at k)
tone-found k low =
    cases (eqb k 0) (λ e. rw e (sym (eqb-true k 0 e)))
    (λ e. rw e
    (after-entry (Is letter_digit) (Is tone_digits) letters (k / 0x100) k _ letters-right
    (λ l el. after-entry (Is accidental_digit) (Is tone_digits) accidentals (k / 0x10 % 0x10) k _ accidentals-right
    (λ a ea. omega arith))))

-- a number by its digits
digits : (n : ℕ) → n ≡ n / 0x10000000 * 0x10000000 + n / 0x100000 % 0x100 * 0x100000 + n / 0x10000 % 0x10 * 0x10000 + n / 0x1000 % 0x10 * 0x1000 + n % 0x1000
digits n =
    let shape : n / 0x10000 ≡ n / 0x1000 / 0x10 = omega arith in
    let duration : n / 0x100000 ≡ n / 0x10000 / 0x10 = omega arith in
    let kind : n / 0x10000000 ≡ n / 0x100000 / 0x100 = omega arith in
    omega arith

note-right : (n : ℕ) → n / 0x10000000 ≡ 1 → Decodes n (note_at n)
note-right n one =
    after-entry (Is duration_digits) (Is code_of) durations (n / 0x100000 % 0x100) n _ durations-right
    (λ d ed. after-entry (Is shape_digit) (Is code_of) shapes (n / 0x10000 % 0x10) n _ shapes-right
    (λ s es. after-entry (Is tie_digit) (Is code_of) ties (n / 0x1000 % 0x10) n _ ties-right
    (λ t et. after-part (Is tone_digits) (Is code_of) (tone_at (n % 0x1000)) (n % 0x1000) n _ (tone-found (n % 0x1000) (omega arith))
    (λ o eo. omega (arith, digits n)))))

unsigned_right : Each (RightFor 0 Any) unsigned_commands
unsigned_right =
    (λ v u. refl)
    and (λ v u. refl)
    and (λ v u. refl)
    and bumped-right
    and switched-right M.Flt 0x313 refl refl
    and switched-right M.Rng 0x323 refl refl
    and switched-right M.Snc 0x333 refl refl
    and switched-right M.Fx 0x343 refl refl
    and (λ v u. refl)
    and (λ v u. refl)
    and (λ v u. refl)
    and (λ v u. refl)
    and switched-right M.Pv 0x373 refl refl
    and (λ v u. refl)
    and (λ v u. refl)
    and (λ v u. refl)
    and (λ v u. refl)
    and (λ v u. refl)
    and switched-right M.ThreeOff 0x35B refl refl
    and (λ v u. refl)
    and bare-right M.Tal 0x30F refl
    and bare-right M.End 0x32F refl
    and bare-right M.Hlt 0x34F refl
    and (λ v u. refl)
    and (λ v u. refl)
    and (λ v u. refl)
    and (λ v u. refl)
    and (λ v u. refl)
    and (λ v u. refl)
    and (λ v u. refl)
    and (λ v u. refl)
    and above-right M.Ps 0x256 (λ z. refl)
    and above-right M.Fs 0x266 (λ z. refl)
    and above-right M.Sca 0x26E (λ z. refl)
    and (λ v u. refl)
    and (λ v u. refl)
    and above-right M.Aut 0x296 (λ z. refl)
    and above-right M.Tps 0x2A6 (λ z. refl)
    and (λ v u. refl)
    and (λ v u. refl)
    and (λ v u. refl)
    and (λ v u. refl)
    and (λ v u. refl)
    and (λ v u. refl)
    and above-right M.Rtp 0x22E (λ z. refl)
    and (λ v u. refl)
    and (λ v u. refl)
    and above-right M.Jif 0x23E (λ z. refl)
    and above-right M.Dtn 0x20A (λ z. refl)
    and (λ v u. refl)
    and tt

negative_right : Each (RightFor 0x10000 NotZero) negative_commands
negative_right =
    below_right M.Ps 0x256 (λ z. refl)
    and below_right M.Fs 0x266 (λ z. refl)
    and below_right M.Sca 0x26E (λ z. refl)
    and below_right M.Aut 0x296 (λ z. refl)
    and below_right M.Tps 0x2A6 (λ z. refl)
    and below_right M.Rtp 0x22E (λ z. refl)
    and below_right M.Jif 0x23E (λ z. refl)
    and below_right M.Dtn 0x20A (λ z. refl)
    and tt

pub decodes : (n : ℕ) → Decodes n (decoded n)
unfolding decoded
decodes n =
    cases (eqb (n / 0x10000000) 1) (λ e. rw e (note-right n (eqb-true (n / 0x10000000) 1 e)))
    (λ e. rw e
    (cases (eqb sign 0)
    (λ p. rw p (command 0 unsigned_commands Any (omega (arith, split, eqb-true sign 0 p)) tt unsigned_right))
    (λ p. rw p
    (cases (eqb sign 1)
    (λ m. rw m
    (cases (eqb v 0) (λ z. rw z (refl, refl))
    (λ z. rw z
    (command 0x10000 negative_commands NotZero (omega (arith, split, eqb-true sign 1 m)) (eqb-false v 0 z) negative_right))))
    (λ m. rw m (refl, refl))))))
  where
    id : ℕ
    id = n / 0x100000

    sign : ℕ
    sign = n / 0x10000 % 0x10

    v : ℕ
    v = n % 0x10000

    split : n ≡ id * 0x100000 + sign * 0x10000 + v
    split = let above : n / 0x100000 ≡ n / 0x10000 / 0x10 = omega arith in omega arith

    command : (before : ℕ) (table : List (Entry (ℕ → Outcome Meaning))) (P : ℕ → Type 0) → id * 0x100000 + before + v ≡ n → P v
        → Each (RightFor before P) table → Decodes n (command_at table id v)
    command before table P e p each =
        subst (λ (k : ℕ). Decodes k (command_at table id v)) e
        (after-entry (RightFor before P) (Is code_of) table id (id * 0x100000 + before + v) (λ m. m v) each (λ m right. right v p))
