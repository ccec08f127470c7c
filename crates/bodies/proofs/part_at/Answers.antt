-- `bodies::part_at` meets its contract.
use mathlib.Core.Path.{sym, subst, ◌∙◌}
use native.Mathlib.Omega.{arith}
use Rattle.kind.specs.Kinds.{Numbered}
use Rattle.bodies.specs.Bodies.{by_tal, by_end}
use Rattle.bodies.proofs.Stored.{plain-pair-event, event_at_lem, hlt_at, bad_at, hed_at, tal_at, def_at, end_at, cal_at}
use Rattle.bodies.proofs.part_at.Goals as goal

pub returns-then-plain_at : goal.returns-then-plain_at
returns-then-plain_at c = event_at_lem c.args.voice.now c.args.i (omega (arith, c.requires)) (plain-pair-event _ _ (sym c.plain_at.ensures ∙ c.if-plain_at.true))

pub returns-in-Event : goal.returns-in-Event
returns-in-Event c = event_at_lem c.args.voice.now c.args.i (omega (arith, c.requires)) (sym c.kind_at.ensures.0 ∙ c.in-Event.is)

pub returns-in-Hed : goal.returns-in-Hed
returns-in-Hed c = (hed_at c.args.voice.now c.args.i (omega (arith, c.requires)) _ (sym c.kind_at.ensures.0 ∙ c.in-Hed.is), subst Numbered c.in-Hed.is c.kind_at.ensures.1)

pub returns-in-Tal : goal.returns-in-Tal
returns-in-Tal c = record { closer = by_tal; closes = tal_at c.args.voice.now c.args.i (omega (arith, c.requires)) (sym c.kind_at.ensures.0 ∙ c.in-Tal.is) }

pub returns-in-Def : goal.returns-in-Def
returns-in-Def c = (def_at c.args.voice.now c.args.i (omega (arith, c.requires)) _ (sym c.kind_at.ensures.0 ∙ c.in-Def.is), subst Numbered c.in-Def.is c.kind_at.ensures.1)

pub returns-in-End : goal.returns-in-End
returns-in-End c = record { closer = by_end; closes = end_at c.args.voice.now c.args.i (omega (arith, c.requires)) (sym c.kind_at.ensures.0 ∙ c.in-End.is) }

pub returns-in-Cal : goal.returns-in-Cal
returns-in-Cal c = (cal_at c.args.voice.now c.args.i (omega (arith, c.requires)) _ (sym c.kind_at.ensures.0 ∙ c.in-Cal.is), subst Numbered c.in-Cal.is c.kind_at.ensures.1)

pub returns-in-Hlt : goal.returns-in-Hlt
returns-in-Hlt c = hlt_at c.args.voice.now c.args.i (omega (arith, c.requires)) (sym c.kind_at.ensures.0 ∙ c.in-Hlt.is)

pub returns-in-Bad : goal.returns-in-Bad
returns-in-Bad c = bad_at c.args.voice.now c.args.i (omega (arith, c.requires)) _ (sym c.kind_at.ensures.0 ∙ c.in-Bad.is)
