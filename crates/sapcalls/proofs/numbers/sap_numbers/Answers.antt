-- `sapcalls::numbers::sap_numbers` meets its contract: the numbers stand as the calls give them.
use Rattle.sapcalls.proofs.Listed.{stated_flag, numbers-listed}
use Rattle.sapcalls.proofs.numbers.sap_numbers.Goals as goal

pub returns : goal.returns
returns c =
    numbers-listed c.args.h c.player_numbers-kind.ensures (stated_flag _ _ c.is_some-stated.ensures)
    c.text_numbers-by.ensures c.text_numbers-called.ensures c.text_numbers-made.ensures
    c.narrow-times.ensures c.narrow-blocks.ensures c.narrow-first.ensures
