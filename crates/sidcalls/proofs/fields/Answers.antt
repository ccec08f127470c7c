-- `fields` meets its contract: the header that is read, as numbers. Assumes nothing.
use mathlib.Core.Path.{sym}
use Rattle.answers.specs.Filling.{refusal_filled, value-filled, refusal_fits}
use Rattle.sidcalls.specs.Lists.{header_numbers}
use Rattle.sidcalls.proofs.Places.{sid_low}
use Rattle.sidcalls.proofs.Accepted.{narrow_header}
use Rattle.sidcalls.proofs.fields.Goals as goal

pub refused-requires : goal.refused-requires
refused-requires c = refusal_fits c.in-Err.ensures (sid_low _)

pub header_numbers-numbers-requires : goal.header_numbers-numbers-requires
header_numbers-numbers-requires c = narrow_header _ _ (sym c.in-Ok.ensures)

pub returns-in-Err : goal.returns-in-Err
returns-in-Err c =
    let w = refusal_filled header_numbers c.args.out.now (rw (c.refused.ensures, c.number.ensures)) c.in-Err.ensures in
    record { answer = w.0; cells = w.1 }

pub returns-in-Ok : goal.returns-in-Ok
returns-in-Ok c =
    let w = value-filled header_numbers c.args.out.now c.fill.ensures c.header_numbers-numbers.ensures c.in-Ok.ensures in
    record { answer = w.0; cells = w.1 }
