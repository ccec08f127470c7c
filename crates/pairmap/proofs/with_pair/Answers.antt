-- `pairmap::with_pair` meets its contract: the law of notes, and that of commands.
use borrow.Author.Rules.{rules}
use Rattle.pairmap.specs.Linear.{single-note, single-command}
use Rattle.pairmap.proofs.Within.{note-low}
use Rattle.pairmap.proofs.with_pair.Goals as goal

pub with_note-requires : goal.with_note-requires
with_note-requires c =
    let at = c.args in
    (c.requires, rw (c.from.ensures, c.length.ensures) (note-low at.first at.second (search rules) c.if-first-eq0.true))

pub returns-then-first-eq0 : goal.returns-then-first-eq0
returns-then-first-eq0 c =
    let at = c.args in
    rw (
      c.with_note.ensures,
      c.from.ensures,
      c.length.ensures,
      single-note at.first at.second (search rules)
          c.if-first-eq0.true,
    )

pub returns-else-first-eq0 : goal.returns-else-first-eq0
returns-else-first-eq0 c =
    let at = c.args in
    rw (c.with_setting.ensures, single-command at.first at.second (search rules) (search rules) c.if-first-eq0.false)
