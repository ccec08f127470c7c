use mathlib.Core.Path.{◌≡◌, refl, sym, ◌∙◌}
use native.Mathlib.Omega.{arith}
use Rattle.std.specs.Prelude.{Option, Some}
use Rattle.bodies.specs.Voice.{pair_at}
use Rattle.voicelength.specs.declared.reading.Open.{Open}
use Rattle.voicelength.proofs.Progress.{reading-start, reading-end, now_small}
use Rattle.voicelength.proofs.PairSteps.{read-call, called-small}
use Rattle.voicelength.proofs.StoredPairs.{at_step, at_move, event-read}
use Rattle.voicelength.proofs.reading.map_of.Goals as goal
use Rattle.voicelength.proofs.reading.map_of.Goals.{in-None, in-Some-Repeat, in-Some-Phrase, in-Some-Call, in-Some-Tal, in-Some-End}

-- what is taken off the list is what lay on top of it
taken : {p t : Option Open} {x y : Open} → p ≡ Some x → p ≡ t → t ≡ Some y → x ≡ y
taken {p} {t} {x} {y} u v w = let e : Some x ≡ Some y = sym u ∙ (v ∙ w) in cc

pub loop-at-init : goal.loop-at-init
loop-at-init c =
    rw (c.new-around.ensures, c.still-phrases.ensures, c.still-now.ensures)
    (omega arith, reading-start _ (λ k. omega (arith, c.shared_slice_known-1.given k)) c.requires)

pub with_pair-now-requires : goal.with_pair-now-requires
with_pair-now-requires c = now_small c.loop-at.invariant.1

pub push-requires : goal.push-requires
push-requires c =
    let x = at_move c.loop-at.invariant.1 c.loop-at-test.true c.bytes_at-pair.ensures c.move_of.ensures.0 c.in-Some-Repeat.is c.in-Some-Repeat.field-0-is in
    omega (arith, x.0)

pub push-requires-in-Some-Phrase : goal.push-requires-in-Some-Phrase
push-requires-in-Some-Phrase c =
    let x = at_move c.loop-at.invariant.1 c.loop-at-test.true c.bytes_at-pair.ensures c.move_of.ensures.0 c.in-Some-Phrase.is c.in-Some-Phrase.field-0-is in
    omega (arith, x.0)

pub joined-now-requires : goal.joined-now-requires
joined-now-requires c =
    let x = at_move c.loop-at.invariant.1 c.loop-at-test.true c.bytes_at-pair.ensures c.move_of.ensures.0 c.in-Some-Call.is c.in-Some-Call.field-0-is in
    rw (c.from.ensures, c.in-Some-Call.k-is) (now_small c.loop-at.invariant.1, called-small c.loop-at.invariant.1 _ x.0)

pub bounds-phrases-from : goal.bounds-phrases-from
bounds-phrases-from c =
    let x = at_move c.loop-at.invariant.1 c.loop-at-test.true c.bytes_at-pair.ensures c.move_of.ensures.0 c.in-Some-Call.is c.in-Some-Call.field-0-is in
    rw (c.from.ensures, c.in-Some-Call.k-is) x.1

pub unwrap-open-requires : goal.unwrap-open-requires
unwrap-open-requires c =
    let x = at_move c.loop-at.invariant.1 c.loop-at-test.true c.bytes_at-pair.ensures c.move_of.ensures.0 c.in-Some-Tal.is c.in-Some-Tal.field-0-is in
    rw (c.pop.ensures.value, x.is-top) refl

pub passes-requires : goal.passes-requires
passes-requires c =
    let x = at_move c.loop-at.invariant.1 c.loop-at-test.true c.bytes_at-pair.ensures c.move_of.ensures.0 c.in-Some-Tal.is c.in-Some-Tal.field-0-is in
    rw (c.from-in-Some-Tal.ensures, taken c.unwrap-open.ensures c.pop.ensures.value x.is-top)
    (x.passes-some, x.passes-low, now_small c.loop-at.invariant.1)

pub joined-now-requires-in-Some-Tal : goal.joined-now-requires-in-Some-Tal
joined-now-requires-in-Some-Tal c =
    let x = at_move c.loop-at.invariant.1 c.loop-at-test.true c.bytes_at-pair.ensures c.move_of.ensures.0 c.in-Some-Tal.is c.in-Some-Tal.field-0-is in
    rw (c.passes.ensures, c.from-in-Some-Tal.ensures, taken c.unwrap-open.ensures c.pop.ensures.value x.is-top)
    (x.before_small, x.passes-small)

pub unwrap-open-requires-in-Some-End : goal.unwrap-open-requires-in-Some-End
unwrap-open-requires-in-Some-End c =
    let x = at_move c.loop-at.invariant.1 c.loop-at-test.true c.bytes_at-pair.ensures c.move_of.ensures.0 c.in-Some-End.is c.in-Some-End.field-0-is in
    rw (c.pop-in-Some-End.ensures.value, x.is-top) refl

pub joined-both-requires : goal.joined-both-requires
joined-both-requires c =
    let x = at_move c.loop-at.invariant.1 c.loop-at-test.true c.bytes_at-pair.ensures c.move_of.ensures.0 c.in-Some-End.is c.in-Some-End.field-0-is in
    rw (taken c.unwrap-open-in-Some-End.ensures c.pop-in-Some-End.ensures.value x.is-top)
    (x.before_small, now_small c.loop-at.invariant.1)

pub bounds-phrases-from-in-Some-End : goal.bounds-phrases-from-in-Some-End
bounds-phrases-from-in-Some-End c =
    let x = at_move c.loop-at.invariant.1 c.loop-at-test.true c.bytes_at-pair.ensures c.move_of.ensures.0 c.in-Some-End.is c.in-Some-End.field-0-is in
    rw (c.from-in-Some-End.ensures, taken c.unwrap-open-in-Some-End.ensures c.pop-in-Some-End.ensures.value x.is-top)
    x.number-low

pub loop-at-preserved : goal.loop-at-preserved
unfolding pair_at
loop-at-preserved c =
    let inv = c.loop-at.invariant.1 in
    let h = c.loop-at-test.true in (
      omega (arith, h),
      elim c.match-move_of.branch [
        | in-None w ↦
            let x = at_step inv h c.bytes_at-pair.ensures c.move_of.ensures.0 w.in-None.is in
            rw (w.around-is, w.phrases-is, w.now-is, w.with_pair-now.ensures, c.bytes_at-pair.ensures) (event-read inv h x)
        | in-Some-Repeat w ↦
            let x = at_move inv h c.bytes_at-pair.ensures c.move_of.ensures.0 w.in-Some-Repeat.is w.in-Some-Repeat.field-0-is in
            rw (w.around-is, w.phrases-is, w.now-is, w.still-now-in-Some-Repeat.ensures, w.push.ensures.items, w.in-Some-Repeat.number-is) x.1
        | in-Some-Phrase w ↦
            let x = at_move inv h c.bytes_at-pair.ensures c.move_of.ensures.0 w.in-Some-Phrase.is w.in-Some-Phrase.field-0-is in
            rw (w.around-is, w.phrases-is, w.now-is, w.still-now-in-Some-Phrase.ensures, w.push-in-Some-Phrase.ensures.items, w.in-Some-Phrase.number-is) x.1
        | in-Some-Call w ↦
            let x = at_move inv h c.bytes_at-pair.ensures c.move_of.ensures.0 w.in-Some-Call.is w.in-Some-Call.field-0-is in
            rw (w.around-is, w.phrases-is, w.now-is, w.joined-now.ensures, w.from.ensures, w.in-Some-Call.k-is) (read-call inv _ x.0)
        | in-Some-Tal w ↦
            let x = at_move inv h c.bytes_at-pair.ensures c.move_of.ensures.0 w.in-Some-Tal.is w.in-Some-Tal.field-0-is in
            rw (w.around-is, w.phrases-is, w.now-is, w.joined-now-in-Some-Tal.ensures, w.passes.ensures, w.from-in-Some-Tal.ensures, taken w.unwrap-open.ensures w.pop.ensures.value x.is-top, w.pop.ensures.rest)
            x.goes_on
        | in-Some-End w ↦
            let x = at_move inv h c.bytes_at-pair.ensures c.move_of.ensures.0 w.in-Some-End.is w.in-Some-End.field-0-is in
            rw (w.around-is, w.phrases-is, w.now-is, w.joined-both.ensures, w.from-in-Some-End.ensures, taken w.unwrap-open-in-Some-End.ensures w.pop-in-Some-End.ensures.value x.is-top, w.pop-in-Some-End.ensures.rest)
            x.goes_on
      ],
    )

pub returns : goal.returns
returns c = reading-end c.loop-at.invariant.1 (omega (arith, c.loop-at-test.false))
