-- `moves::go_on` meets its contract, each pair by its own arm.
use mathlib.Core.Path.{refl}
use Rattle.moves.specs.Moves.{place_after, frames_after}
use Rattle.moves.proofs.go_on.Goals as goal

pub returns-in-Repeat : goal.returns-in-Repeat
unfolding place_after frames_after
returns-in-Repeat c = rw c.in-Repeat.is (refl, c.push.ensures.items)

pub returns-in-Phrase : goal.returns-in-Phrase
unfolding place_after frames_after
returns-in-Phrase c = rw c.in-Phrase.is (refl, refl)

pub returns-in-Call : goal.returns-in-Call
unfolding place_after frames_after
returns-in-Call c = rw c.in-Call.is (refl, c.push-in-Call.ensures.items)

pub returns-in-Tal : goal.returns-in-Tal
unfolding place_after frames_after
returns-in-Tal c = rw c.in-Tal.is c.close_repeat.ensures

pub returns-in-End : goal.returns-in-End
unfolding place_after frames_after
returns-in-End c = rw c.in-End.is c.close_phrase.ensures
