-- The measure is what is left of the file.
use Rattle.std.proofs.Common.{length, ◌-◌}
use Rattle.sapinfo.proofs.show_blocks.Given as goal

abbrev pub decreases-loop-found : goal.decreases-loop-found
decreases-loop-found g l = length l.file - l.at
