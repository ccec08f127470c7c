use mathlib.Core.Path.{sym, subst}
use native.Mathlib.Omega.{arith}
use Rattle.bodies.specs.Places.{IsPart}
use Rattle.tally.specs.Small.{Small}
use Rattle.counts.proofs.Readings.{sum-start, running, event-step, call_step, call-deep, repeat-step, repeat-deep, phrase-step, phrase-deep, close_end, stop_end}
use Rattle.counts.proofs.+measure.Goals as goal

pub loop-at-init : goal.loop-at-init
loop-at-init t c =
    sum-start _ _ _ _ _ c.nothing-sum.ensures c.requires

pub part_at-requires : goal.part_at-requires
part_at-requires t c =
    omega (arith, c.loop-at-test.true)

pub with_event-sum-requires : goal.with_event-sum-requires
with_event-sum-requires t c =
    running c.loop-at.invariant

pub overflow_add-at : goal.overflow_add-at
overflow_add-at t c =
    omega (arith, c.loop-at-test.true, c.loop-at.invariant.short)

pub loop-at-smaller-in-Plain : goal.loop-at-smaller-in-Plain
loop-at-smaller-in-Plain t c =
    omega (arith, c.loop-at-test.true)

pub loop-at-preserved-in-Plain : goal.loop-at-preserved-in-Plain
loop-at-preserved-in-Plain t c =
    event-step c.loop-at.invariant _ _ c.loop-at-test.true (subst (IsPart _ _) c.in-Plain.is c.part_at.ensures) c.with_event-sum.ensures

pub returns-then-allowance-eq0 : goal.returns-then-allowance-eq0
returns-then-allowance-eq0 t c =
    repeat-deep c.loop-at.invariant _ (subst (IsPart _ _) c.in-Repeat.is c.part_at.ensures).0 (omega (arith, c.if-allowance-eq0.true))

pub overflow_sub-allowance : goal.overflow_sub-allowance
overflow_sub-allowance t c =
    omega (arith, c.if-allowance-eq0.false)

pub overflow_add-at-in-Repeat : goal.overflow_add-at-in-Repeat
overflow_add-at-in-Repeat t c =
    omega (arith, c.loop-at-test.true, c.loop-at.invariant.short)

pub measure-requires : goal.measure-requires
measure-requires t c =
    (omega (arith, c.loop-at.invariant.later, c.loop-at-test.true), record { short = c.loop-at.invariant.short; inside = omega (arith, c.loop-at-test.true); low = omega (arith, c.loop-at.invariant.allowed); cells_ready = c.loop-at.invariant.cells_ready })

pub returns-in_err-m-in-Repeat : goal.returns-in_err-m-in-Repeat
returns-in_err-m-in-Repeat t c =
    let g = c.in_err-m-in-Repeat.ensures in
    rw c.from_residual.ensures
    (repeat-deep c.loop-at.invariant _ (subst (IsPart _ _) c.in-Repeat.is c.part_at.ensures).0 (omega (arith, g, c.if-allowance-eq0.false)))

pub with_repeat-sum-requires : goal.with_repeat-sum-requires
with_repeat-sum-requires t c =
    let g = c.in_ok-m-in-Repeat.ensures in
    (running c.loop-at.invariant, g.small, (subst (IsPart _ _) c.in-Repeat.is c.part_at.ensures).1)

pub overflow_add-at-in-Repeat-2 : goal.overflow_add-at-in-Repeat-2
overflow_add-at-in-Repeat-2 t c =
    let g = c.in_ok-m-in-Repeat.ensures in
    omega (arith, g.inside, c.loop-at.invariant.short)

pub loop-at-smaller-in-Repeat : goal.loop-at-smaller-in-Repeat
loop-at-smaller-in-Repeat t c =
    let g = c.in_ok-m-in-Repeat.ensures in
    omega (arith, g.inside, g.later, c.loop-at-test.true)

pub loop-at-preserved-in-Repeat : goal.loop-at-preserved-in-Repeat
loop-at-preserved-in-Repeat t c =
    let g = c.in_ok-m-in-Repeat.ensures in
    repeat-step c.loop-at.invariant _ _ _ _ (subst (IsPart _ _) c.in-Repeat.is c.part_at.ensures).0 (omega (arith, c.if-allowance-eq0.false)) g c.with_repeat-sum.ensures

pub overflow_add-at-in-Phrase : goal.overflow_add-at-in-Phrase
overflow_add-at-in-Phrase t c =
    omega (arith, c.loop-at-test.true, c.loop-at.invariant.short)

pub measure-requires-in-Phrase : goal.measure-requires-in-Phrase
measure-requires-in-Phrase t c =
    (omega (arith, c.loop-at.invariant.later, c.loop-at-test.true), record { short = c.loop-at.invariant.short; inside = omega (arith, c.loop-at-test.true); low = c.loop-at.invariant.allowed; cells_ready = c.loop-at.invariant.cells_ready })

pub returns-in_err-m-in-Phrase : goal.returns-in_err-m-in-Phrase
returns-in_err-m-in-Phrase t c =
    rw c.from_residual-in_err-m-in-Phrase.ensures
    (phrase-deep c.loop-at.invariant _ (subst (IsPart _ _) c.in-Phrase.is c.part_at.ensures).0 c.in_err-m-in-Phrase.ensures)

pub packed_counts-requires : goal.packed_counts-requires
packed_counts-requires t c =
    let g = c.in_ok-m-in-Phrase.ensures in
    g.small

pub overflow_cast-cells : goal.overflow_cast-cells
overflow_cast-cells t c =
    omega (arith, (subst (IsPart _ _) c.in-Phrase.is c.part_at.ensures).1)

pub offset_bounds-cells-k : goal.offset_bounds-cells-k
offset_bounds-cells-k t c =
    omega (arith, (subst (IsPart _ _) c.in-Phrase.is c.part_at.ensures).1)

pub bounds-cells-k : goal.bounds-cells-k
bounds-cells-k t c =
    omega (arith, (subst (IsPart _ _) c.in-Phrase.is c.part_at.ensures).1)

pub with_phrase-sum-requires : goal.with_phrase-sum-requires
with_phrase-sum-requires t c =
    let g = c.in_ok-m-in-Phrase.ensures in
    (running c.loop-at.invariant, g.small)

pub overflow_add-at-in-Phrase-2 : goal.overflow_add-at-in-Phrase-2
overflow_add-at-in-Phrase-2 t c =
    let g = c.in_ok-m-in-Phrase.ensures in
    omega (arith, g.inside, c.loop-at.invariant.short)

pub loop-at-smaller-in-Phrase : goal.loop-at-smaller-in-Phrase
loop-at-smaller-in-Phrase t c =
    let g = c.in_ok-m-in-Phrase.ensures in
    omega (arith, g.inside, g.later, c.loop-at-test.true)

pub loop-at-preserved-in-Phrase : goal.loop-at-preserved-in-Phrase
loop-at-preserved-in-Phrase t c =
    let g = c.in_ok-m-in-Phrase.ensures in
    phrase-step c.loop-at.invariant _ _ _ _ _ (subst (IsPart _ _) c.in-Phrase.is c.part_at.ensures).0 (subst (IsPart _ _) c.in-Phrase.is c.part_at.ensures).1 g c.packed_counts.ensures c.with_phrase-sum.ensures

pub overflow_cast-k : goal.overflow_cast-k
overflow_cast-k t c =
    omega (arith, (subst (IsPart _ _) c.in-Call.is c.part_at.ensures).1)

pub offset_bounds-cells-k-in-Call : goal.offset_bounds-cells-k-in-Call
offset_bounds-cells-k-in-Call t c =
    omega (arith, (subst (IsPart _ _) c.in-Call.is c.part_at.ensures).1)

pub bounds-cells-k-in-Call : goal.bounds-cells-k-in-Call
bounds-cells-k-in-Call t c =
    omega (arith, (subst (IsPart _ _) c.in-Call.is c.part_at.ensures).1)

pub returns-then-allowance-c : goal.returns-then-allowance-c
returns-then-allowance-c t c =
    call-deep c.loop-at.invariant _ _ (subst (IsPart _ _) c.in-Call.is c.part_at.ensures).0 c.unpacked_counts-c.ensures c.if-allowance-c.true

pub with_call-sum-requires : goal.with_call-sum-requires
with_call-sum-requires t c =
    (running c.loop-at.invariant, subst Small (sym c.unpacked_counts-c.ensures) (c.loop-at.invariant.cells_ready.small c.in-Call.k))

pub overflow_add-at-in-Call : goal.overflow_add-at-in-Call
overflow_add-at-in-Call t c =
    omega (arith, c.loop-at-test.true, c.loop-at.invariant.short)

pub loop-at-smaller : goal.loop-at-smaller
loop-at-smaller t c =
    omega (arith, c.loop-at-test.true)

pub loop-at-preserved : goal.loop-at-preserved
loop-at-preserved t c =
    call_step c.loop-at.invariant _ _ _ c.loop-at-test.true (subst (IsPart _ _) c.in-Call.is c.part_at.ensures).0 c.unpacked_counts-c.ensures (omega (arith, c.if-allowance-c.false)) c.with_call-sum.ensures

pub settled-requires : goal.settled-requires
settled-requires t c =
    running c.loop-at.invariant

pub returns-in-Close : goal.returns-in-Close
returns-in-Close t c =
    let closing = subst (IsPart _ _) c.in-Close.is c.part_at.ensures in
    close_end c.loop-at.invariant _ closing.closer c.settled.ensures c.loop-at-test.true closing.closes

pub settled-requires-2 : goal.settled-requires-2
settled-requires-2 t c =
    running c.loop-at.invariant

pub returns : goal.returns
returns t c =
    stop_end c.loop-at.invariant _ c.settled-2.ensures (omega (arith, c.loop-at-test.false)) c.requires.inside
