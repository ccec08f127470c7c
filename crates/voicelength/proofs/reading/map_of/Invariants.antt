-- `voicelength::reading::map_of` meets its contract. The loop's invariant: what is made of the stored pairs
-- so far, with what is still to come, is the map of the voice. At each turn one stored pair less is left.
use Prim.Native.Nat.{◌-◌, ◌/◌, ◌≤◌}
use lib.ListN.{length}
use Rattle.voicelength.proofs.Progress.{Reading}
use Rattle.voicelength.proofs.reading.map_of.Given as goal

abbrev pub invariant-loop-at : goal.invariant-loop-at
invariant-loop-at l = (l.at ≤ length l.voice / 2) × Reading l.voice l.around.items l.phrases l.now l.at

abbrev pub decreases-loop-at : goal.decreases-loop-at
decreases-loop-at l = length l.voice / 2 - l.at
