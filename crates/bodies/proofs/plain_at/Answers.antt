-- `bodies::plain_at` meets its contract.
use Rattle.bodies.specs.Voice.{plain_at}
use Rattle.bodies.proofs.plain_at.Goals as goal

pub returns : goal.returns
unfolding plain_at
returns c = rw c.bytes_at-pair.ensures at c.is_plain.ensures
