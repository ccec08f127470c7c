-- `mus::voices::accept_voice` meets its contract.
use Rattle.std.proofs.Common.{sym, ◌∙◌}
use Rattle.mus.proofs.Outcomes.{pairs-refused, structure-refused, both-clear, clear-sound, pairs-few, structure-few}
use Rattle.mus.proofs.voices.accept_voice.Goals as goal

pub refusal_at-requires : goal.refusal_at-requires
refusal_at-requires c = (c.requires.1, pairs-few _ _ c.requires.0 (sym c.pairs_finding.ensures ∙ c.in-Err.is))

pub returns-in-Err : goal.returns-in-Err
returns-in-Err c = rw c.refusal_at.ensures (sym (pairs-refused _ _ _ (sym c.pairs_finding.ensures ∙ c.in-Err.is)))

pub refusal_at-requires-in-Err-structure_finding : goal.refusal_at-requires-in-Err-structure_finding
refusal_at-requires-in-Err-structure_finding c = (c.requires.1, structure-few _ _ c.requires.0 (sym c.structure_finding.ensures ∙ c.in-Err-structure_finding.is))

pub returns-in-Err-structure_finding : goal.returns-in-Err-structure_finding
returns-in-Err-structure_finding c =
    rw c.refusal_at-in-Err-structure_finding.ensures
    (sym (structure-refused _ _ _ (sym c.pairs_finding.ensures ∙ c.in_default.is) (sym c.structure_finding.ensures ∙ c.in-Err-structure_finding.is)))

pub counted-requires : goal.counted-requires
counted-requires c = (c.requires.0, clear-sound _ (sym c.pairs_finding.ensures ∙ c.in_default.is) (sym c.structure_finding.ensures ∙ c.in_default-structure_finding.is))

pub returns : goal.returns
returns c = c.counted.ensures ∙ sym (both-clear _ _ (sym c.pairs_finding.ensures ∙ c.in_default.is) (sym c.structure_finding.ensures ∙ c.in_default-structure_finding.is))
