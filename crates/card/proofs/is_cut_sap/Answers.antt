-- `card::is_cut_sap` meets its contract: by what the first bytes are.
use Rattle.card.proofs.is_cut_sap.Goals as goal

pub returns : goal.returns
returns c = rw c.begins.ensures
