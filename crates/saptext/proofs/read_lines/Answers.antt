use Rattle.std.proofs.Common.{arith, sym, subst, ◌∙◌, ◌+◌, eqb-true}
use Rattle.std.proofs.lemmas.Bool.{eqb-false}
use Rattle.saptext.proofs.Loop.{Ongoing, time_is, start, entry-facts, go-time, go-other, go-tag, end_marked, end-bad, end-twice, end-past}
use Rattle.saptext.proofs.read_lines.Goals.{then-times-song, else-times-song}
use Rattle.saptext.proofs.read_lines.Goals as goal

pub loop-at-init : goal.loop-at-init
loop-at-init c = start _ _

pub returns-then-is_marker : goal.returns-then-is_marker
returns-then-is_marker c = end_marked c.loop-at.invariant (sym c.is_marker.ensures ∙ c.if-is_marker.true)

pub returns-in_err-entry : goal.returns-in_err-entry
returns-in_err-entry c = c.from_residual.ensures ∙ end-bad c.loop-at.invariant (sym c.is_marker.ensures ∙ c.if-is_marker.false) (sym c.entry_at.ensures ∙ c.in_err-entry.was)

pub returns : goal.returns
returns c = end-past c.loop-at.invariant c.loop-at-test.false

pub returns-then-is_some : goal.returns-then-is_some
returns-then-is_some c =
    end-twice c.loop-at.invariant (sym c.is_marker.ensures ∙ c.if-is_marker.false) _ c.loop-at-test.true (sym c.entry_at.ensures ∙ c.in_ok-entry.was) _ c.number_of-number.ensures (λ e. eqb-false _ _ (sym (time_is _ c.eq.ensures) ∙ c.if-eq.false) (sym c.number_of-number.ensures ∙ e))
    (sym c.is_some.ensures ∙ c.if-is_some.true)

pub loop-at-smaller-after-times-song : goal.loop-at-smaller-after-times-song
loop-at-smaller-after-times-song c =
    let next = entry-facts c.args.file.now c.loop-at.at c.in_ok-entry.entry c.loop-at-test.true (sym c.entry_at.ensures ∙ c.in_ok-entry.was) in
    omega (arith, next.0, next.1)

pub loop-at-preserved-after-times-song : goal.loop-at-preserved-after-times-song
loop-at-preserved-after-times-song c =
    let unmarked = sym c.is_marker.ensures ∙ c.if-is_marker.false in
    let good = sym c.entry_at.ensures ∙ c.in_ok-entry.was in
    let time = c.number_of-number.ensures ∙ eqb-true _ _ (sym (time_is _ c.eq.ensures) ∙ c.if-eq.true) in
    elim c.if-times-song.branch [
      | then-times-song w ↦ subst (λ (d : _). Ongoing c.args.file.now c.args.song d (c.loop-at.times + 1) c.in_ok-entry.entry.next) (sym w.cells-is) (go-time c.loop-at.invariant unmarked _ c.loop-at-test.true good _ c.number_of-number.ensures time w.if-times-song.true)
      | else-times-song w ↦ subst (λ (d : _). Ongoing c.args.file.now c.args.song d (c.loop-at.times + 1) c.in_ok-entry.entry.next) (sym w.cells-is) (go-other c.loop-at.invariant unmarked _ c.loop-at-test.true good _ c.number_of-number.ensures time w.if-times-song.false)
    ]

pub loop-at-smaller : goal.loop-at-smaller
loop-at-smaller c =
    let next = entry-facts c.args.file.now c.loop-at.at c.in_ok-entry.entry c.loop-at-test.true (sym c.entry_at.ensures ∙ c.in_ok-entry.was) in
    omega (arith, next.0, next.1)

pub loop-at-preserved : goal.loop-at-preserved
loop-at-preserved c =
    go-tag c.loop-at.invariant (sym c.is_marker.ensures ∙ c.if-is_marker.false) _ c.loop-at-test.true (sym c.entry_at.ensures ∙ c.in_ok-entry.was) _ c.number_of-number.ensures (λ e. eqb-false _ _ (sym (time_is _ c.eq.ensures) ∙ c.if-eq.false) (sym c.number_of-number.ensures ∙ e))
    (sym c.is_some.ensures ∙ c.if-is_some.false)
