-- docs/INTERFACE.md, 'What a call answers': one number of 64 bits, and for some calls numbers in a list.
-- packed      'below 2^32 the value, else number × 2^32 + place'
-- no_value     the value of a call that only accepts: 0
-- list_after   the cells after a call, by its outcome: 'Cells that a call does not fill keep what they held',
--             'A refusal leaves every list as it was'
use Rattle.std.specs.Prelude.{ℕ, ◌+◌, ◌*◌, List}
use Rattle.fields.specs.Parts.{front}
use Rattle.refusals.specs.Numbers.{Outcome}
use Rattle.refusals.specs.Numbers.Outcome.{accepted, refused}

abbrev pub packed : {A : Type 0} → (A → ℕ) → Outcome A → ℕ
packed value (accepted a) = value a
packed value (refused number place) = number * 0x100000000 + place

abbrev pub no_value : {A : Type 0} → A → ℕ
no_value a = 0

abbrev pub list_after : {A : Type 0} → (A → List ℕ) → Outcome A → List ℕ → List ℕ
list_after numbers (accepted a) cells = front (numbers a) cells
list_after numbers (refused number place) cells = cells
