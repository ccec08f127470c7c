-- The bytes that one write took follow those that the writer had taken.
use Rattle.std.proofs.Common.{◌-◌, length, drop, arith, length-take}
use Rattle.printing.proofs.Taken.{taken_next}
use Rattle.printing.proofs.output.write.Goals as goal

pub loop-done-preserved : goal.loop-done-preserved
loop-done-preserved g c =
    let text = c.args.text.now in
    let done = c.loop-done.done in
    let before = c.loop-done.invariant in
    let now = c.in_ok-done.ensures in
    record {
      within =
          omega (arith, before.within, now.bound, length-take (length text - done) (drop done text));
      taken = taken_next _ _ _ text done c.in_ok-done.field-0 before.taken now.written;
    }
