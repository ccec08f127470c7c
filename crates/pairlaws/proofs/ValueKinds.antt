-- What is written reads back: what this says of one spelling, and when a pair does.
-- ValuesBack.antt has one law for each kind of value.
-- ReadsBack                   what is written reads back; what is not written is answered 43, place 0
-- picked-back                 a pair that is written under a test
-- at_value                    a spelling of one value
-- coded-means                 a command of the first byte 01
-- joined-means                a value that begins in the first byte
use Prim.Native.Nat.{ℕ, ◌+◌, ◌*◌, ◌/◌, ◌%◌, ◌≤◌}
use mathlib.Core.Path.{◌≡◌, refl, sym, ◌∙◌, ap, subst}
use mathlib.Core.Bool.{Bool, true, false, ◌&&◌, cond}
use native.Mathlib.Omega.{arith}
use lib.Dec.{T, eqb, ltb, eqb→eq, ltb→lt, lit<}
use borrow.Author.Tests.{eqb-true}
use Rattle.logic.specs.Cases.{cases}
use Rattle.refusals.specs.Numbers.{Outcome}
use Rattle.refusals.specs.Numbers.Outcome.{accepted, refused}
use Rattle.meaning.specs.declared.Meaning.{Meaning}
use Rattle.meaning.specs.declared.Bytes.{Bytes}
use Rattle.logic.specs.Every.{all_left, all_right}
use Rattle.commandtable.specs.Codes as Codes
use Rattle.commandtable.specs.Codes.{Command, second_means}
use Rattle.commandtable.specs.Numbering.{command_number, command_numbered}
use Rattle.commandtable.proofs.Table.{command-back}
use Rattle.spelling.specs.Counts.{pair, no_bytes}
use Rattle.spelling.proofs.Steps.{stepped}
use Rattle.pair.specs.Pairs.{meaning_of}
use Rattle.pairlaws.specs.Statements.{Means}

abbrev pub ReadsBack : Meaning → Outcome Bytes → Type 0
ReadsBack m (accepted bytes) = Means m bytes.first bytes.second
ReadsBack m (refused number place) = (number ≡ 43) × (place ≡ 0)

pub picked-back : (m : Meaning) (t : Bool) (a b : ℕ) → (t ≡ true → Means m a b) → ReadsBack m (cond t (pair a b) no_bytes)
picked-back m true a b f = f refl
picked-back m false a b f = (refl, refl)

pub at_value : (M : ℕ → Meaning) (v k : ℕ) (x y : Outcome Bytes) → ReadsBack (M k) x → ReadsBack (M v) y → ReadsBack (M v) (cond (eqb v k) x y)
at_value M v k x y f g =
    cases (eqb v k) (λ e. rw e (subst (λ (j : ℕ). ReadsBack (M j) x) (sym (eqb-true v k e)) f)) (λ e. rw e g)

-- the second byte's command and value, as a test
abbrev pub coded_is : Command → ℕ → ℕ → Bool
coded_is c b v = eqb (command_number (second_means b).command) (command_number c) && eqb (second_means b).value v && ltb b 256

same_command : (c d : Command) → command_number c ≡ command_number d → c ≡ d
same_command c d e = sym (command-back c) ∙ ap command_numbered e ∙ command-back d

pub coded-means : (c : Command) (M : ℕ → Meaning) → ((v : ℕ) → Codes.command_meaning c v ≡ accepted (M v))
    → (b v : ℕ) → T (coded_is c b v) → Means (M v) 1 b
coded-means c M is b v t =
    let k = (second_means b).command in
    let first = eqb (command_number k) (command_number c) in
    let second = eqb (second_means b).value v in
    let both = all_left (first && second) (ltb b 256) t in
    let command = same_command k c (eqb→eq (command_number k) (command_number c) (all_left first second both)) in
    let value = eqb→eq (second_means b).value v (all_right first second both) in
    (rw (command, value) (is v), lit< tt, ltb→lt b 256 (all_right (first && second) (ltb b 256) t))

pub joined-means : (m : Meaning) (v most base step : ℕ) → v ≤ most → T (ltb (base + step * (most / 256)) 256)
    → meaning_of (base + step * (v / 256)) (v % 256) ≡ accepted m → Means m (base + step * (v / 256)) (v % 256)
joined-means m v most base step low top is =
    (is, stepped (v / 256) (most / 256) base step (omega (arith, low)) (ltb→lt (base + step * (most / 256)) 256 top), omega arith)
