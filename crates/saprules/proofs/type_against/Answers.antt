-- `type_against` meets its contract: it is the definition. Assumes nothing.
use mathlib.Core.Path.{refl}
use Rattle.saprules.specs.Against.{type_against}
use Rattle.saprules.proofs.type_against.Goals as goal

pub returns : goal.returns
unfolding type_against
returns c = refl
