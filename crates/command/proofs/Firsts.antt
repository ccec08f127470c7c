-- Source 004's patterns of a first byte as arithmetic, each row by one test over all 256 bytes.
-- arithmetic, as_arithmetic   a pattern's fitting and number as arithmetic
-- pulse_as, joined_as         the rows whose value begins in the first byte
-- singles, single-missed      the rows of one byte each: which those are, and that no other fits
use Prim.Native.Nat.{ℕ, ◌+◌, ◌*◌, ◌/◌, ◌%◌, ◌<◌}
use mathlib.Core.Path.{◌≡◌, refl, ◌∙◌}
use mathlib.Core.Bool.{Bool, false, ◌&&◌, ◌||◌, cond}
use mathlib.Core.List.{List, [], ◌∷◌}
use native.Mathlib.Omega.{arith}
use native.Mathlib.Decide.{ℕ_discrete}
use borrow.Author.Tests.{eq-eqb, ne_eqb}
use lib.Dec.{T, eqb, eqb→eq}
use Rattle.meaning.specs.declared.Meaning.{Meaning}
use Rattle.meaning.specs.declared.Meaning.TheVariants.{Pw, Ms, Dtn, Por}
use Rattle.logic.specs.Truth.{neither}
use Rattle.logic.specs.Every.{every, every_at, all_left, all_right, same, same_equal, among}
use Rattle.refusals.specs.Numbers.{Outcome}
use Rattle.refusals.specs.Numbers.Outcome.{accepted}
use Rattle.commandtable.specs.Patterns.{Symbol, O, I, n, byte, fits, number}
use Rattle.commandsigns.specs.Signs.{detuning_of, jif_outcome}
use Rattle.command.specs.Others.{FirstRow, pulse_rows, single_rows, row_found, unassigned, joined_outcome}

abbrev arithmetic : List Symbol → (ℕ → Bool) → (ℕ → ℕ) → ℕ → Bool
arithmetic p test value a = same (fits p a) (test a) && eqb (number p a) (value a)

as_arithmetic : (p : List Symbol) (test : ℕ → Bool) (value : ℕ → ℕ) → T (every (arithmetic p test value) 256)
    → (a : ℕ) → a < 256 → (fits p a ≡ test a) × (number p a ≡ value a)
as_arithmetic p test value t a h =
    let r = every_at (arithmetic p test value) 256 t a h in (
      same_equal (fits p a) (test a) (all_left (same (fits p a) (test a)) (eqb (number p a) (value a)) r),
      eqb→eq (number p a) (value a) (all_right (same (fits p a) (test a)) (eqb (number p a) (value a)) r),
    )

pub pulse_as : (a b : ℕ) (x : Outcome Meaning) → a < 256 → row_found pulse_rows a b x ≡ cond (eqb (a % 16) 2) (accepted (Pw (a / 16 * 256 + b))) x
pulse_as a b x h =
    let pw = as_arithmetic (byte n n n n O O I O) (λ k. eqb (k % 16) 2) (λ k. k / 16) tt a h in
    rw (pw.0, pw.1)

-- DTN's two rows are one, with bit 4 as the sign
detuned : (a : ℕ) (d : ℕ → Outcome Meaning) (x : Outcome Meaning)
    → cond (eqb (a % 32) 0x0A) (d 0) (cond (eqb (a % 32) 0x1A) (d 1) x) ≡ cond (eqb (a % 16) 0x0A) (d (a / 16 % 2)) x
detuned a d x =
    elim (ℕ_discrete (a % 32) 0x0A) [
      | yes p ↦
          let s : a / 16 % 2 ≡ 0 = omega arith in
          rw (eq-eqb _ _ p, eq-eqb (a % 16) 0x0A (omega arith), s)
      | no q ↦
          elim (ℕ_discrete (a % 32) 0x1A) [
            | yes p ↦
                let s : a / 16 % 2 ≡ 1 = omega arith in
                rw (ne_eqb _ _ q, eq-eqb _ _ p, eq-eqb (a % 16) 0x0A (omega arith), s)
            | no r ↦ rw (ne_eqb _ _ q, ne_eqb _ _ r, ne_eqb (a % 16) 0x0A (λ e. omega arith))
          ]
    ]

pub joined_as : (a b : ℕ) → a < 256
    → joined_outcome a b
    ≡ cond (eqb (a % 64) 0x1E) (accepted (Ms (a / 64 * 256 + b)))
    (cond (eqb (a % 64) 0x3E) (jif_outcome (a / 64 * 256 + b))
    (cond (eqb (a % 16) 0x0A) (accepted (Dtn (detuning_of (a / 32 * 256 + b) (a / 16 % 2))))
    (cond (eqb (a % 4) 3) (accepted (Por (a / 4 * 256 + b))) unassigned)))
joined_as a b h =
    let ms = as_arithmetic (byte n n O I I I I O) (λ k. eqb (k % 64) 0x1E) (λ k. k / 64) tt a h in
    let jif = as_arithmetic (byte n n I I I I I O) (λ k. eqb (k % 64) 0x3E) (λ k. k / 64) tt a h in
    let above = as_arithmetic (byte n n n O I O I O) (λ k. eqb (k % 32) 0x0A) (λ k. k / 32) tt a h in
    let below = as_arithmetic (byte n n n I I O I O) (λ k. eqb (k % 32) 0x1A) (λ k. k / 32) tt a h in
    let por = as_arithmetic (byte n n n n n n I I) (λ k. eqb (k % 4) 3) (λ k. k / 4) tt a h in
    let rest = cond (eqb (a % 4) 3) (accepted (Por (a / 4 * 256 + b))) unassigned in
    rw (por.1, above.1, ms.1, por.0, below.0, above.0, jif.0, ms.0, detuned a (λ bit. accepted (Dtn (detuning_of (a / 32 * 256 + b) bit))) rest)

abbrev pub singles : List ℕ
singles = 0x06 ∷ 0x16 ∷ 0x26 ∷ 0x36 ∷ 0x46 ∷ 0x56 ∷ 0x66 ∷ 0x6E ∷ 0x76 ∷ 0x86 ∷ 0x96 ∷ 0xA6 ∷ 0xB6 ∷ 0xC6 ∷ 0xD6 ∷ 0xE6 ∷ 0xF6 ∷ 0x0E ∷ 0x2E ∷ 0x4E ∷ []

abbrev some_fits : List FirstRow → ℕ → Bool
some_fits [] a = false
some_fits (r ∷ rs) a = fits r.pattern a || some_fits rs a

none_found : (rs : List FirstRow) (a b : ℕ) (x : Outcome Meaning) → some_fits rs a ≡ false → row_found rs a b x ≡ x
none_found [] a b x e = refl
none_found (r ∷ rs) a b x e =
    let missed = neither (fits r.pattern a) (some_fits rs a) e in
    rw missed.0 (none_found rs a b x missed.1)

pub single-missed : (a b : ℕ) (x : Outcome Meaning) → a < 256 → among singles a ≡ false → row_found single_rows a b x ≡ x
single-missed a b x h e =
    none_found single_rows a b x (same_equal (some_fits single_rows a) (among singles a) (every_at (λ k. same (some_fits single_rows k) (among singles k)) 256 tt a h) ∙ e)
