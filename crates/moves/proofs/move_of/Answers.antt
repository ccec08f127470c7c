-- `moves::move_of` meets its contract: the pair's kind, not asked for where the pair is plain.
use Prim.Native.Nat.{ℕ, ◌<◌}
use mathlib.Core.Path.{◌≡◌, sym, ap, subst, ◌∙◌}
use Rattle.std.proofs.Common.{rules}
use Rattle.pair.specs.Pairs.{meaning_of}
use Rattle.kind.specs.declared.Kind.{Kind}
use Rattle.kind.specs.declared.Kind.TheVariants.{Event, Hed, Tal, Def, End, Cal, Hlt, Bad}
use Rattle.kind.specs.Kinds.{kind_of, Numbered}
use Rattle.kind.specs.Laws.{kind-numbered}
use Rattle.kind.proofs.PlainEvents.{plain-event}
use Rattle.moves.specs.Moves.{next_of, Bounded}
use Rattle.moves.proofs.move_of.Goals as goal

numbered : (z : Kind) → Numbered z → Bounded (next_of z)
numbered Event n = tt
numbered (Hed k) n = n
numbered Tal n = tt
numbered (Def k) n = n
numbered End n = tt
numbered (Cal k) n = n
numbered Hlt n = tt
numbered (Bad r) n = tt

-- what is told of a kind, told of the pair's kind
told : (a b : ℕ) {y z : Kind} → b < 256 → y ≡ kind_of (meaning_of a b) → y ≡ z
    → (next_of z ≡ next_of (kind_of (meaning_of a b))) × Bounded (next_of z)
told a b {y} {z} h k e = (ap next_of (sym e ∙ k), numbered z (subst Numbered (sym k ∙ e) (kind-numbered a b h)))

pub returns-then-is_plain : goal.returns-then-is_plain
returns-then-is_plain c =
    let pair = c.args.pair in
    (ap next_of (sym (plain-event pair.first pair.second (sym c.is_plain.ensures ∙ c.if-is_plain.true))), tt)

pub returns-in-Hed : goal.returns-in-Hed
returns-in-Hed c = told c.args.pair.first c.args.pair.second (search rules) c.kind_of.ensures c.in-Hed.is

pub returns-in-Tal : goal.returns-in-Tal
returns-in-Tal c = told c.args.pair.first c.args.pair.second (search rules) c.kind_of.ensures c.in-Tal.is

pub returns-in-Def : goal.returns-in-Def
returns-in-Def c = told c.args.pair.first c.args.pair.second (search rules) c.kind_of.ensures c.in-Def.is

pub returns-in-End : goal.returns-in-End
returns-in-End c = told c.args.pair.first c.args.pair.second (search rules) c.kind_of.ensures c.in-End.is

pub returns-in-Cal : goal.returns-in-Cal
returns-in-Cal c = told c.args.pair.first c.args.pair.second (search rules) c.kind_of.ensures c.in-Cal.is
