-- `TimeMap::length` meets its contract.
use native.Mathlib.Omega.{arith}
use Rattle.timemap.specs.Maps.{length_by}
use Rattle.timemap.proofs.Bounds.{product}
use Rattle.timemap.proofs.TimeMap.length.Goals as goal

pub added-tempo-requires : goal.added-tempo-requires
added-tempo-requires c =
    let a = c.args.self in
    (omega (arith, c.requires.sized.fixed), rw c.from.ensures (omega (arith, product a.tempos c.args.values.tempo c.requires.sized.tempos (omega arith))))

pub added-utl-requires : goal.added-utl-requires
added-utl-requires c =
    let a = c.args.self in
    let tempo = product a.tempos c.args.values.tempo c.requires.sized.tempos (omega arith) in
    (rw (c.added-tempo.ensures, c.from.ensures) (omega (arith, c.requires.sized.fixed, tempo)), rw c.from-2.ensures (omega (arith, product a.utls c.args.values.utl c.requires.sized.utls (omega arith))))

pub added-requires : goal.added-requires
added-requires c =
    let a = c.args.self in
    let tempo = product a.tempos c.args.values.tempo c.requires.sized.tempos (omega arith) in
    let utl = product a.utls c.args.values.utl c.requires.sized.utls (omega arith) in
    (rw (c.added-utl.ensures, c.added-tempo.ensures, c.from.ensures, c.from-2.ensures) (omega (arith, c.requires.sized.fixed, tempo, utl)), rw c.from-3.ensures (omega (arith, product a.utvs c.args.values.utv c.requires.sized.utvs (omega arith))))

pub returns : goal.returns
unfolding length_by
returns c = rw (c.added.ensures, c.added-utl.ensures, c.added-tempo.ensures, c.from.ensures, c.from-2.ensures, c.from-3.ensures)
