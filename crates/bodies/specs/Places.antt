-- The bodies at a pair of a voice by its number, for the contracts of code that walks the stored pairs.
-- open_at   the bodies that are open at a pair, innermost first
-- body_at   the rest of the innermost
-- Closing  a pair that closes a body
-- IsPart   a pair as what it is to the bodies
use Rattle.std.specs.Prelude.{ℕ, ◌+◌, ◌<◌, ◌≡◌, List, ◌∷◌, drop}
use Rattle.meaning.specs.declared.Meaning.{Meaning}
use Rattle.refusals.specs.Numbers.{Outcome}
use Rattle.bodies.specs.declared.Part.{Part}
use Rattle.bodies.specs.declared.Part.TheVariants.{Plain, Repeat, Phrase, Call, Close}
use Rattle.bodies.specs.Voice.{pairs, pair_at}
use Rattle.bodies.specs.Bodies.{Closer, Body, done, event, repeat, phrase, call, inner, outer, event_at, bodies}

unfoldable pub open_at : List (Outcome Meaning) → ℕ → List Body
open_at v i = bodies i (drop i v)

unfoldable pub body_at : List (Outcome Meaning) → ℕ → Body
body_at v i = inner (open_at v i)

-- A pair that closes a body.
pub record Closing (v : List (Outcome Meaning)) (i : ℕ) : Type 0 where
  pub closer : Closer
  pub closes : open_at v i ≡ done closer ∷ open_at v (i + 1)

-- a pair as what it is to the bodies: what is open at it, from what is open after it
abbrev pub IsPart : List ℕ → ℕ → Part → Type 0
IsPart bs i Plain = open_at (pairs bs) i ≡ event (event_at i (pair_at bs i)) (inner (open_at (pairs bs) (i + 1))) ∷ outer (open_at (pairs bs) (i + 1))
IsPart bs i (Repeat n) =
    (open_at (pairs bs) i
    ≡ repeat n (inner (open_at (pairs bs) (i + 1))) (inner (outer (open_at (pairs bs) (i + 1)))) ∷ outer (outer (open_at (pairs bs) (i + 1))))
    × (n < 256)
IsPart bs i (Phrase k) =
    (open_at (pairs bs) i
    ≡ phrase k (inner (open_at (pairs bs) (i + 1))) (inner (outer (open_at (pairs bs) (i + 1)))) ∷ outer (outer (open_at (pairs bs) (i + 1))))
    × (k < 24)
IsPart bs i (Call k) = (open_at (pairs bs) i ≡ call k (inner (open_at (pairs bs) (i + 1))) ∷ outer (open_at (pairs bs) (i + 1))) × (k < 24)
IsPart bs i Close = Closing (pairs bs) i
