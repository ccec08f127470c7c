-- `is_marker` meets its contract. Assumes nothing.
use Rattle.sapblocks.proofs.is_marker.Goals as goal

pub returns : goal.returns
returns c = rw (c.byte_at-second.ensures, c.byte_at-first.ensures, c.bytes_from-s.ensures)
