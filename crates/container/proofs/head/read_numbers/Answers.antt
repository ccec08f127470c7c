-- `read_numbers` meets its contract: each number is what its read ensures. Assumes nothing.
use Rattle.container.specs.Head.{head_of}
use Rattle.container.proofs.head.read_numbers.Goals as goal

pub returns : goal.returns
unfolding head_of
returns c =
    rw (
      c.le16-len3.ensures,
      c.le16-len2.ensures,
      c.le16-len1.ensures,
      c.le16-load.ensures,
    )
