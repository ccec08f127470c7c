-- A call that puts numbers into a list and answers how many there are: its answer and its list, where it
-- refuses and where it has a value.
-- Filled          the call's answer and its list at exit are those of an outcome
-- front_none      no numbers change no cell
-- refusal_filled  where it refuses, with the list as it was
-- value-filled    where it has a value, with the front of the list filled
-- refusal_fits    the place of a refusal that LowPlace allows is below 2^32
use Rattle.std.specs.Prelude.{ℕ, ◌+◌, ◌*◌, ◌<◌, min, ◌≡◌, List, [], length}
use Rattle.std.proofs.Common.{sym, ap, ◌∙◌, subst, arith}
use Rattle.fields.specs.Parts.{front}
use Rattle.refusals.specs.Numbers.{Outcome}
use Rattle.refusals.specs.Numbers.Outcome.{accepted, refused}
use Rattle.answers.specs.Answers.{packed, list_after}
use Rattle.answers.specs.Apart.{LowPlace, low_fits}

-- No numbers, put into the front of a list, change no cell.
pub front_none : (cells : List ℕ) → cells ≡ front [] cells
front_none cells = let none : min 0 (length cells) ≡ 0 = omega arith in rw none

module _ {A : Type 0} (numbers : A → List ℕ) (cells : List ℕ) where
  abbrev pub Filled : Outcome A → ℕ → List ℕ → Type 0
  Filled o answer exit = (answer ≡ packed (λ a. length (numbers a)) o) × (exit ≡ list_after numbers o cells)

  -- Where the outcome is a refusal, a call that answers it and leaves the list has the outcome's answer and
  -- list.
  pub refusal_filled : {n p answer : ℕ} {o : Outcome A} → answer ≡ n * 0x100000000 + p → refused n p ≡ o
      → Filled o answer cells
  refusal_filled is e = (
    is ∙ ap (packed (λ a. length (numbers a))) e,
    ap (λ (o : Outcome A). list_after numbers o cells) e,
  )

  -- Where the outcome is a value, so has a call that answers how many numbers there are and puts as many of
  -- them as fit into the front of the list.
  pub value-filled : {a : A} {exit given : List ℕ} {o : Outcome A} → exit ≡ front given cells → given ≡ numbers a
      → accepted a ≡ o → Filled o (length (numbers a)) exit
  value-filled is gives e = (
    ap (packed (λ a. length (numbers a))) e,
    is ∙ ap (λ (l : List ℕ). front l cells) gives ∙ ap (λ (o : Outcome A). list_after numbers o cells) e,
  )

-- Where an outcome is as LowPlace says, a refusal that is that outcome has a place below 2^32.
pub refusal_fits : {A : Type 0} {n p : ℕ} {o : Outcome A} → refused n p ≡ o → LowPlace o → p < 0x100000000
refusal_fits e low = low_fits (subst LowPlace (sym e) low)
