-- What the walk may count on, for its contract.
-- Listable   none of 27 to 33 applies to the voice; it has at most 65,536 bytes and begins at most at 65,536;
--            so many events from the first one asked for on are there, and so many cells in each list; the
--            pairs walked are those of the definition
use Rattle.std.specs.Prelude.{ℕ, ◌-◌, ◌≤◌, ◌≡◌, List, length}
use Rattle.bodies.specs.Voice.{pairs}
use Rattle.bodies.specs.Playing.{events_of, walked_of}
use Rattle.mus.specs.Acceptance.{Passes}

pub record Listable (bs : List ℕ) (base first count walked : ℕ) (os js : List ℕ) : Type 0 where
  pub passes : Passes (pairs bs)
  pub short : length bs ≤ 65536
  pub low : base ≤ 65536
  pub steps : walked ≡ walked_of (pairs bs)
  pub enough : count ≤ events_of (pairs bs) - first
  pub offsets-room : count ≤ length os
  pub jiffies-room : count ≤ length js
