-- Document 01, 'Playing a voice': what a voice that 30 does not refuse has shown of its bodies, for the laws
-- about them.
-- also          the numbers closed by END, and one more
-- closed_in      the numbers closed after a body, where some are closed before it
-- Flat          no DEF stands in a body
-- Ordered       'DEF in DEF; a number defined twice in the voice; CAL of a number not yet closed by END':
--               none of these
-- Shut          each HED is closed by a TAL, each DEF by an END, and the body itself by a closer
-- definitions   the bodies of the DEFs with a number, in stored order
-- Called        a CAL with a number stands in a body
-- none_closed    before a voice no number is closed
-- Sound         a voice is one body, in order and shut
use Rattle.std.specs.Prelude.{ℕ, ◌≡◌, Bool, true, false, ◌||◌, cond, List, [], ◌∷◌, ◌++◌, ◌⊎◌, eqb}
use Rattle.meaning.specs.declared.Meaning.{Meaning}
use Rattle.refusals.specs.Numbers.{Outcome}
use Rattle.bodies.specs.Bodies.{Closer, by_tal, by_end, by_stop, Body, done, event, repeat, phrase, call, outer, bodies, body_of}

abbrev pub also : ℕ → (ℕ → Bool) → ℕ → Bool
also k closed j = eqb k j || closed j

unfoldable pub closed_in : (ℕ → Bool) → Body → ℕ → Bool
closed_in closed (done c) = closed
closed_in closed (event e r) = closed_in closed r
closed_in closed (repeat n i r) = closed_in (closed_in closed i) r
closed_in closed (phrase k i r) = closed_in (also k closed) r
closed_in closed (call k r) = closed_in closed r

unfoldable pub Flat : Body → Type 0
Flat (done c) = Unit
Flat (event e r) = Flat r
Flat (repeat n i r) = Flat i × Flat r
Flat (phrase k i r) = ⊥
Flat (call k r) = Flat r

unfoldable pub Ordered : (ℕ → Bool) → Body → Type 0
Ordered closed (done c) = Unit
Ordered closed (event e r) = Ordered closed r
Ordered closed (repeat n i r) = Ordered closed i × Ordered (closed_in closed i) r
Ordered closed (phrase k i r) = (closed k ≡ false) × Flat i × Ordered closed i × Ordered (also k closed) r
Ordered closed (call k r) = (closed k ≡ true) × Ordered closed r

unfoldable pub Shut : Closer → Body → Type 0
Shut c (done d) = c ≡ d
Shut c (event e r) = Shut c r
Shut c (repeat n i r) = Shut by_tal i × Shut c r
Shut c (phrase k i r) = Shut by_end i × Shut c r
Shut c (call k r) = Shut c r

unfoldable pub definitions : ℕ → Body → List Body
definitions k (done c) = []
definitions k (event e r) = definitions k r
definitions k (repeat n i r) = definitions k i ++ definitions k r
definitions k (phrase j i r) = cond (eqb j k) (i ∷ []) [] ++ (definitions k i ++ definitions k r)
definitions k (call j r) = definitions k r

unfoldable pub Called : ℕ → Body → Type 0
Called k (done c) = ⊥
Called k (event e r) = Called k r
Called k (repeat n i r) = Called k i ⊎ Called k r
Called k (phrase j i r) = Called k i ⊎ Called k r
Called k (call j r) = (j ≡ k) ⊎ Called k r

abbrev pub none_closed : ℕ → Bool
none_closed k = false

pub record Sound (v : List (Outcome Meaning)) : Type 0 where
  pub whole : outer (bodies 0 v) ≡ []
  pub ordered : Ordered none_closed (body_of v)
  pub shut : Shut by_stop (body_of v)
