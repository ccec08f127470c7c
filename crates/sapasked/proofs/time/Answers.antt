-- `sapasked::time` meets its contract: a refusal, or the time as one number.
use Prim.Native.Nat.{◌≤◌}
use mathlib.Core.Path.{sym, ap, ◌∙◌}
use native.Mathlib.Omega.{arith}
use mir.Val.{bool_byte}
use Rattle.std.specs.Prelude.{Ok}
use Rattle.refusals.specs.Numbers.{outcome_of}
use Rattle.answers.specs.Answers.{packed}
use Rattle.answers.specs.Filling.{refusal_fits}
use Rattle.sapasked.specs.Lists.{time_number}
use Rattle.sapasked.proofs.Places.{time-low}
use Rattle.sapasked.proofs.Laws.{flag_low}
use Rattle.sapasked.proofs.time.Goals as goal

pub refused-requires : goal.refused-requires
refused-requires c = refusal_fits (ap outcome_of (sym c.in-Err.is) ∙ c.time.ensures) (time-low _ _)

pub overflow_add-result : goal.overflow_add-result
overflow_add-result c =
    let d = c.in-Ok-Some.d in
    let flag : bool_byte d.looped ≤ 1 = flag_low d.looped in
    omega arith

pub returns-in-Err : goal.returns-in-Err
returns-in-Err c = (rw c.number.ensures at c.refused.ensures) ∙ ap (packed time_number) (ap outcome_of (sym c.in-Err.is) ∙ c.time.ensures)

pub returns-in-Ok-None : goal.returns-in-Ok-None
returns-in-Ok-None c = ap (packed time_number) (ap outcome_of (sym (c.in-Ok-None.is ∙ ap Ok c.in-Ok-None.field-0-is)) ∙ c.time.ensures)

pub returns-in-Ok-Some : goal.returns-in-Ok-Some
returns-in-Ok-Some c = ap (packed time_number) (ap outcome_of (sym (c.in-Ok-Some.is ∙ ap Ok c.in-Ok-Some.field-0-is)) ∙ c.time.ensures)
