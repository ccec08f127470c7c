-- `words_at` meets its contract: the entry of a number is that of the joined words. Assumes nothing.
use Rattle.std.proofs.Common.{refl, ◌∙◌}
use Rattle.fields.specs.Entries.{entry-joined}
use Rattle.cardcheck.specs.Errors.{error_texts}
use Rattle.cardcheck.proofs.lines.words_at.Goals as goal

pub returns : goal.returns
returns c = c.entry_at.ensures ∙ entry-joined 10 error_texts c.args.number refl
