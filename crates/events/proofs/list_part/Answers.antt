-- `events::list_part` meets its contract: the walk's lists are the window asked for.
use Rattle.events.proofs.Answers.{part_listable, part-listed}
use Rattle.events.proofs.list_part.Goals as goal

pub list_voice-requires : goal.list_voice-requires
list_voice-requires c =
    part_listable _ c.args.v _ _ _ c.requires.0 c.part.ensures c.count_of-count.ensures c.requires.1

pub returns : goal.returns
returns c =
    part-listed _ c.args.v c.args.first c.args.offsets.now c.args.jiffies.now c.requires.0 c.part.ensures c.count_of-count.ensures c.list_voice.ensures.0 c.list_voice.ensures.1
