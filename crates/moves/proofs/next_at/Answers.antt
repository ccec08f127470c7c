-- `moves::next_at`: the pair by its two bytes.
use Rattle.bodies.specs.Voice.{pair_at}
use Rattle.moves.proofs.next_at.Goals as goal

pub returns : goal.returns
unfolding pair_at
returns c = rw c.bytes_at.ensures at c.move_of.ensures
