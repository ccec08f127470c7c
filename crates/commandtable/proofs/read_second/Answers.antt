use Rattle.std.proofs.Common.{◌∙◌, ap}
use borrow.Author.Rules.{rules}
use Rattle.refusals.specs.Numbers.{outcome_of}
use Rattle.commandtable.proofs.Agrees.{meaning_agrees}
use Rattle.commandtable.proofs.read_second.Goals as goal

pub returns : goal.returns
returns c = ap outcome_of c.ok_or.ensures.value ∙ rw c.into.ensures (meaning_agrees c.args.second (search rules))
