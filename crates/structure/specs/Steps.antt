-- How the code keeps what is open: two counts and a number. For the contracts of its functions; the
-- definitions themselves are in Tests.antt.
-- heds        so many HEDs before what else is open
-- in_phrase    the openers up to the open DEF, if one is open
-- openers_of   the openers that the two counts and the number stand for
-- known       what is closed, where only one number is asked for
-- number_in    the number of a DEF or a CAL
-- Few         bounds of the counts
-- Moves       what is open after a pair
-- closed_with  the cells of the closed numbers, with one more
-- Closes      the number that a pair closes, if it closes one
-- Stepped     what a step says: 30 and 31 pass and what is open and closed after the pair, or which of them
--             applies
use Rattle.std.specs.Prelude.{Result, Ok, Err, Option, Some, None, IfSome, ℕ, zero, suc, ◌+◌, ◌<◌, ◌≤◌, ◌≡◌, Bool, true, List, [], ◌∷◌, set}
use Rattle.refusals.specs.Tests.{first_of}
use Rattle.refusals.specs.declared.Reason.{Reason}
use Rattle.kind.specs.declared.Kind.{Kind}
use Rattle.kind.specs.declared.Kind.TheVariants.{Event, Hed, Tal, Def, End, Cal, Hlt, Bad}
use Rattle.bodies.specs.Order.{also}
use Rattle.structure.specs.declared.nesting.Open.{Open}
use Rattle.structure.specs.declared.nesting.Step.{Step}
use Rattle.structure.specs.Tests.{Opener, by_hed, by_def, Nesting, nesting_tests, openers_after, closed_after}

unfoldable pub heds : ℕ → List Opener → List Opener
heds zero os = os
heds (suc n) os = by_hed ∷ heds n os

abbrev pub in_phrase : Option ℕ → List Opener → List Opener
in_phrase None os = []
in_phrase (Some k) os = by_def k ∷ os

unfoldable pub openers_of : Open → List Opener
openers_of o = heds o.inside (in_phrase o.phrase (heds o.outside []))

abbrev pub known : Open → Bool → Nesting
known o closed = record { openers = openers_of o; closed = λ k. closed }

abbrev pub number_in : Kind → ℕ
number_in Event = 0
number_in (Hed n) = 0
number_in Tal = 0
number_in (Def k) = k
number_in End = 0
number_in (Cal k) = k
number_in Hlt = 0
number_in (Bad n) = 0

pub record Few (o : Open) (n : ℕ) : Type 0 where
  pub inside : o.inside ≤ n
  pub outside : o.outside ≤ n
  pub phrase : IfSome o.phrase (λ k. k < 24)

pub record Moves (z : Kind) (o p : Open) : Type 0 where
  pub opens : openers_of p ≡ openers_after z (openers_of o)
  pub few : (n : ℕ) → Few o n → Few p (n + 1)

abbrev pub closed_with : List Bool → Option ℕ → List Bool
closed_with cells None = cells
closed_with cells (Some k) = set cells k true

abbrev pub Closes : Kind → Open → Option ℕ → Type 0
Closes z o None = (f : ℕ → Bool) → closed_after z (openers_of o) f ≡ f
Closes z o (Some k) = ((f : ℕ → Bool) → closed_after z (openers_of o) f ≡ also k f) × (k < 24)

abbrev pub Stepped : Kind → Open → Bool → Result Step Reason → Type 0
Stepped z o closed (Ok s) =
    (first_of (nesting_tests z (known o closed)) ≡ Ok tt) × Moves z o s.after × Closes z o s.closes
Stepped z o closed (Err r) = first_of (nesting_tests z (known o closed)) ≡ Err r
