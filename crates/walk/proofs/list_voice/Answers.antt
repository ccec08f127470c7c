use mathlib.Core.Path.{sym, subst, ◌∙◌}
use native.Mathlib.Omega.{arith}
use Rattle.moves.specs.Moves.{Bounded}
use Rattle.walk.proofs.Listings.{listing_start, listing-end, listing-next, listing-timed, listing-room, listing-event, listing_ready, listing_move}
use Rattle.walk.proofs.list_voice.Goals as goal

pub loop-cursor-init : goal.loop-cursor-init
loop-cursor-init c = rw (c.at_start.ensures, c.new-frames.ensures) (listing_start _ _ _ _ _ _ _ c.requires)

pub overflow_sub-left : goal.overflow_sub-left
overflow_sub-left c = omega (arith, (listing-next c.loop-cursor.invariant c.loop-cursor-test.true).1)

pub next_at-requires : goal.next_at-requires
next_at-requires c = omega (arith, (listing-next c.loop-cursor.invariant c.loop-cursor-test.true).0)

pub turn_at-event-requires : goal.turn_at-event-requires
turn_at-event-requires c = listing-timed c.loop-cursor.invariant c.loop-cursor-test.true

pub put-cursor-requires : goal.put-cursor-requires
put-cursor-requires c = listing-room c.loop-cursor.invariant c.loop-cursor-test.true

pub overflow_add-at : goal.overflow_add-at
overflow_add-at c =
    let now = listing-timed c.loop-cursor.invariant c.loop-cursor-test.true in
    omega (arith, now.there, now.short)

pub loop-cursor-smaller-in-None : goal.loop-cursor-smaller-in-None
loop-cursor-smaller-in-None c = omega (arith, (listing-next c.loop-cursor.invariant c.loop-cursor-test.true).1)

pub loop-cursor-preserved-in-None : goal.loop-cursor-preserved-in-None
loop-cursor-preserved-in-None c =
    let bytes = c.shared_slice_known-1.given in
    listing-event c.loop-cursor.invariant c.loop-cursor-test.true (λ k. omega (arith, bytes k)) (sym c.next_at.ensures.0 ∙ c.in-None.is) c.turn_at-event.ensures
    c.put-cursor.ensures.0 c.put-cursor.ensures.1 c.put-cursor.ensures.2

pub body_of-body-requires : goal.body_of-body-requires
body_of-body-requires c =
    let now = listing-timed c.loop-cursor.invariant c.loop-cursor-test.true in
    (omega (arith, now.there, now.short), subst Bounded c.in-Some.is c.next_at.ensures.1)

pub go_on-at-requires : goal.go_on-at-requires
go_on-at-requires c =
    listing_ready c.loop-cursor.invariant c.loop-cursor-test.true _ (sym c.next_at.ensures.0 ∙ c.in-Some.is) (subst Bounded c.in-Some.is c.next_at.ensures.1)

pub loop-cursor-smaller : goal.loop-cursor-smaller
loop-cursor-smaller c = omega (arith, (listing-next c.loop-cursor.invariant c.loop-cursor-test.true).1)

pub loop-cursor-preserved : goal.loop-cursor-preserved
loop-cursor-preserved c =
    listing_move c.loop-cursor.invariant c.loop-cursor-test.true _ (sym c.next_at.ensures.0 ∙ c.in-Some.is) (subst Bounded c.in-Some.is c.next_at.ensures.1)
    c.body_of-body.ensures.0 c.body_of-body.ensures.1 c.go_on-at.ensures.0 c.go_on-at.ensures.1

pub shape_of-offsets : goal.shape_of-offsets
shape_of-offsets c = c.loop-cursor.invariant.offsets-length

pub shape_of-jiffies : goal.shape_of-jiffies
shape_of-jiffies c = c.loop-cursor.invariant.jiffies-length

pub returns : goal.returns
returns c = listing-end c.loop-cursor.invariant (omega (arith, c.loop-cursor-test.false))
