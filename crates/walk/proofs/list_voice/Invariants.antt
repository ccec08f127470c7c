-- `walk::list_voice` meets its contract. The loop's invariant: what is filled so far, before what is still to
-- come, is the window asked for. One pair less is to be walked at each turn.
use Rattle.walk.proofs.Listings.{ListingSoFar}
use Rattle.walk.proofs.list_voice.Given as goal

abbrev pub invariant-loop-cursor : goal.invariant-loop-cursor
invariant-loop-cursor l =
    ListingSoFar l.voice l.base l.first l.count l.initial.offsets l.initial.jiffies l.offsets l.jiffies l.frames.items l.starts l.at l.now l.cursor l.left

abbrev pub decreases-loop-cursor : goal.decreases-loop-cursor
decreases-loop-cursor l = l.left
