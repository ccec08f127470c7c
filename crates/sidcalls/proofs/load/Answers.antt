-- `load` meets its contract: `put_payload` loads, and its outcome is that of loading. Assumes nothing.
use mathlib.Core.Path.{ap}
use Rattle.sidload.specs.Laws.{load_headed}
use Rattle.answers.specs.Answers.{packed, no_value}
use Rattle.answers.specs.Filling.{refusal_fits}
use Rattle.sidcalls.proofs.Places.{load_low}
use Rattle.sidcalls.proofs.load.Goals as goal

pub refused-requires : goal.refused-requires
refused-requires c = refusal_fits (load_headed _ _ _ c.in-Err.ensures.answer) (load_low _ _)

pub returns-in-Err : goal.returns-in-Err
returns-in-Err c =
    record {
      answer = rw (c.refused.ensures, c.number.ensures) (ap (packed no_value) (load_headed _ _ _ c.in-Err.ensures.answer));
      cells = c.in-Err.ensures.cells;
    }

pub returns-in-Ok : goal.returns-in-Ok
returns-in-Ok c =
    record {
      answer = ap (packed no_value) (load_headed _ _ _ c.in-Ok.ensures.answer);
      cells = c.in-Ok.ensures.cells;
    }
