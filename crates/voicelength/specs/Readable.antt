-- What the reading of a voice may count on, for the contract of its code.
-- Readable   none of 27 to 33 applies to the voice, and it has at most 65,536 bytes
use Rattle.std.specs.Prelude.{ℕ, ◌≤◌, List, length}
use Rattle.bodies.specs.Voice.{pairs}
use Rattle.mus.specs.Acceptance.{Passes}

pub record Readable (bs : List ℕ) : Type 0 where
  pub passes : Passes (pairs bs)
  pub short : length bs ≤ 65536
