-- `time_at` meets its contract: the numbers fit. Assumes nothing.
use Rattle.std.proofs.Common.{arith, sym, ap, ◌∙◌, length, length-drop}
use Rattle.saptimes.specs.Laws.{clock-within, clock-small, fraction-within, fraction-small}
use Rattle.saptimes.proofs.time_at.Goals as goal

pub overflow_mul-milliseconds : goal.overflow_mul-milliseconds
overflow_mul-milliseconds c = omega (arith, clock-small c.args.bytes.now _ _ (sym c.clock_at.ensures ∙ c.in_ok-clock.was))

pub overflow_add-milliseconds : goal.overflow_add-milliseconds
overflow_add-milliseconds c =
    omega (
      arith,
      clock-small c.args.bytes.now _ _ (sym c.clock_at.ensures ∙ c.in_ok-clock.was),
      fraction-small c.after-rest.result.now _ _ (sym c.fraction_at.ensures ∙ c.in_ok-fraction.was),
    )

pub looped_at-requires : goal.looped_at-requires
looped_at-requires c =
    let clock = sym c.clock_at.ensures ∙ c.in_ok-clock.was in
    let fraction = sym c.fraction_at.ensures ∙ c.in_ok-fraction.was in
    let s = c.args.bytes.now in
    let r = c.after-rest.result.now in
    let left = ap length c.after-rest.ensures ∙ length-drop c.in_ok-clock.clock.len s in
    (omega (arith, clock-within s _ _ clock, fraction-within r _ _ fraction, left), omega (arith, clock-small s _ _ clock, fraction-small r _ _ fraction))
