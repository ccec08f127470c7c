-- An event's length is document 01's: a note's by `note_length`, a command's by the law that commands take 0.
use borrow.Author.Rules.{rules}
use Rattle.clock.specs.Lengths.{length_of}
use Rattle.clock.specs.Settings.{length-command}
use Rattle.clock.proofs.length.Goals as goal

pub returns-then-first-eq0 : goal.returns-then-first-eq0
unfolding length_of
returns-then-first-eq0 c = rw (c.if-first-eq0.true, c.note_length.ensures)

pub returns-else-first-eq0 : goal.returns-else-first-eq0
returns-else-first-eq0 c =
    let at = c.args in
    rw (length-command at.values at.first at.second (search rules) (search rules) c.if-first-eq0.false)
