-- Decoding gives back what was coded: the meaning that a number decodes to has that number as its code.
-- Is         a value that has this number, by a function that gives a value's number
-- Decodes    an outcome of a number: its meaning's code is the number; a refusal is 43
-- Each       what holds of each entry of a table
-- RightFor   a command of a number and a value
-- switched-right, bumped-right, bare-right, above-right, below_right   so, by the kind of its value
-- Decoded.antt shows it for every number.
use Prim.Native.Nat.{ℕ, ◌+◌, ◌*◌, ◌-◌, ◌<◌}
use mathlib.Core.Path.{◌≡◌, refl, sym, ◌∙◌, ap, subst}
use mathlib.Core.Bool.{Bool, true, false}
use mathlib.Core.List.{List, [], ◌∷◌}
use native.Mathlib.Omega.{arith}
use native.Mathlib.Decide.{ℕ_discrete}
use lib.IntN.{ℤ, pos, negsuc, sub_ℕ}
use borrow.Author.Tests.{ne_eqb, lt-leb, lt-ltb, le-ltb}
use Rattle.refusals.specs.Numbers.{Outcome}
use Rattle.refusals.specs.Numbers.Outcome.{accepted, refused}
use Rattle.meaning.specs.declared.Meaning.{Meaning}
use Rattle.meaning.specs.declared.Meaning.TheVariants as M
use Rattle.codes.specs.Coding.{signed, code_of}
use Rattle.decoding.specs.Tables.{Entry, as_switch, as_bump, bare, above, below}

abbrev pub Each : {A : Type 0} → (A → ℕ → Type 0) → List (Entry A) → Type 0
Each P [] = Unit
Each P (e ∷ es) = P e.1 e.0 × Each P es

-- of what is found, P; else it is 43, place 0
abbrev pub Found : {A : Type 0} → (A → ℕ → Type 0) → ℕ → Outcome A → Type 0
Found P k (accepted a) = P a k
Found P k (refused number place) = (number ≡ 43) × (place ≡ 0)

-- a value that has this number
abbrev pub Is : {A : Type 0} → (A → ℕ) → A → ℕ → Type 0
Is f a k = f a ≡ k

-- what an outcome says of a number: its meaning's code is the number
abbrev pub Decodes : ℕ → Outcome Meaning → Type 0
Decodes n o = Found (Is code_of) n o

-- a command of a number and a value, with the digits of the sign between them
abbrev pub RightFor : ℕ → (ℕ → Type 0) → (ℕ → Outcome Meaning) → ℕ → Type 0
RightFor sign P m id = (v : ℕ) → P v → Decodes (id * 0x100000 + sign + v) (m v)

abbrev pub Any : ℕ → Type 0
Any v = Unit

abbrev pub NotZero : ℕ → Type 0
NotZero v = v ≡ 0 → ⊥

zero_one : (P : ℕ → Type 0) → P 0 → P 1 → ((v : ℕ) → 1 < v → P v) → (v : ℕ) → P v
zero_one P p q r v = elim (ℕ_discrete v 0) [
  | yes e ↦ subst P (sym e) p
  | no a ↦ elim (ℕ_discrete v 1) [ yes e ↦ subst P (sym e) q | no b ↦ r v (omega arith) ]
]

pub switched-right : (m : Bool → Meaning) (id : ℕ) → code_of (m false) ≡ id * 0x100000 → code_of (m true) ≡ id * 0x100000 + 1 → RightFor 0 Any (as_switch m) id
switched-right m id off on v u =
    zero_one (λ v. Decodes (id * 0x100000 + 0 + v) (as_switch m v)) (omega (arith, off)) (omega (arith, on)) (λ v h. rw (lt-leb v 1 h) (refl, refl)) v

pub bumped-right : RightFor 0 Any (as_bump M.Bmp) 0x303
bumped-right v u = zero_one (λ v. Decodes (0x303 * 0x100000 + 0 + v) (as_bump M.Bmp v)) refl refl (λ v h. rw (lt-leb v 1 h) (refl, refl)) v

pub bare-right : (m : Meaning) (id : ℕ) → code_of m ≡ id * 0x100000 + 0 → RightFor 0 Any (bare m) id
bare-right m id is v u =
    zero_one (λ v. Decodes (id * 0x100000 + 0 + v) (bare m v)) (omega (arith, is)) (refl, refl) (λ v h. rw (ne_eqb v 0 (λ e. omega arith)) (refl, refl)) v

pub up : (v : ℕ) → sub_ℕ v 0 ≡ pos v
up v = rw (le-ltb v 0 (omega arith)) (ap pos (omega arith))

pub down : (v : ℕ) → (v ≡ 0 → ⊥) → sub_ℕ 0 v ≡ negsuc (v - 1)
down v h = rw (lt-ltb 0 v (omega arith)) (ap negsuc (omega arith))

pub above-right : (m : ℤ → Meaning) (id : ℕ) → ((z : ℤ) → code_of (m z) ≡ signed id z) → RightFor 0 Any (above m) id
above-right m id is v u = rw (up v) (is (pos v) ∙ omega arith)

pub below_right : (m : ℤ → Meaning) (id : ℕ) → ((z : ℤ) → code_of (m z) ≡ signed id z) → RightFor 0x10000 NotZero (below m) id
below_right m id is v h = rw (down v h) (is (negsuc (v - 1)) ∙ omega arith)
