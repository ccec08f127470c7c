-- `player_of` asks no more of an address than its tag allows. Assumes nothing.
use Rattle.saptags.specs.declared.Tag.TheVariants as tag
use Rattle.sapheader.proofs.player_of.Goals as goal

pub number_for-requires : goal.number_for-requires
number_for-requires c = rw c.stated-2.ensures (c.requires tag.Init)

pub number_for-requires-2 : goal.number_for-requires-2
number_for-requires-2 c = rw c.stated-3.ensures (c.requires tag.Music)

pub number_for-player-requires : goal.number_for-player-requires
number_for-player-requires c = rw c.stated-4.ensures (c.requires tag.Player)
