-- `sapasked::block` meets its contract: a refusal, no list, or the list of the block.
use mathlib.Core.Path.{refl, sym, ap, ◌∙◌}
use Rattle.std.specs.Prelude.{Ok}
use Rattle.refusals.specs.Numbers.{outcome_of}
use Rattle.answers.specs.Filling.{front_none, refusal_filled, value-filled, refusal_fits}
use Rattle.sapasked.specs.Lists.{block_numbers}
use Rattle.sapasked.proofs.Places.{block-low}
use Rattle.sapasked.proofs.block.Goals as goal

pub refused-requires : goal.refused-requires
refused-requires c = refusal_fits (ap outcome_of (sym c.in-Err.is) ∙ c.block.ensures) (block-low _ _)

pub returns-in-Err : goal.returns-in-Err
returns-in-Err c =
    let done = refusal_filled block_numbers c.args.out.now (rw c.number.ensures at c.refused.ensures) (ap outcome_of (sym c.in-Err.is) ∙ c.block.ensures) in
    record { answer = done.0; cells = done.1 }

pub returns-in-Ok-None : goal.returns-in-Ok-None
returns-in-Ok-None c =
    let out = c.args.out.now in
    let done = value-filled block_numbers out (front_none out) refl (ap outcome_of (sym (c.in-Ok-None.is ∙ ap Ok c.in-Ok-None.field-0-is)) ∙ c.block.ensures) in
    record { answer = done.0; cells = done.1 }

pub returns-in-Ok-Some : goal.returns-in-Ok-Some
returns-in-Ok-Some c =
    let done = value-filled block_numbers c.args.out.now c.fill.ensures c.block_numbers-numbers.ensures (ap outcome_of (sym (c.in-Ok-Some.is ∙ ap Ok c.in-Ok-Some.field-0-is)) ∙ c.block.ensures) in
    record { answer = done.0; cells = done.1 }
