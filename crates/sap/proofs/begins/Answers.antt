-- `begins` meets its contract. Assumes nothing.
use mathlib.Core.Path.{◌∙◌}
use Rattle.sap.proofs.First.{starts_first}
use Rattle.sap.proofs.begins.Goals as goal

pub returns : goal.returns
returns c = c.starts_with.ensures.value ∙ starts_first c.args.file.now
