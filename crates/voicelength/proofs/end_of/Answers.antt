-- `voicelength::end_of` meets its contract: the map of the voice, at the values that it starts with.
use mathlib.Core.Path.{◌∙◌}
use native.Mathlib.Omega.{arith}
use lib.ListN.{drop, length-take, length-drop}
use Rattle.voicelength.proofs.Ends.{end_is}
use Rattle.voicelength.proofs.end_of.Goals as goal

pub map_of-requires : goal.map_of-requires
map_of-requires c =
    let v = c.args.v in
    let f = c.args.file.now in
    rw c.part.ensures
    record {
      passes = c.requires.passes;
      short = omega (arith, c.requires.short, length-take v.length (drop v.offset f), length-drop v.offset f);
    }

pub returns : goal.returns
returns c =
    c.length.ensures
    ∙ rw (c.map_of.ensures.0, c.at_start.ensures, c.part.ensures)
    (end_is c.args.file.now c.args.v (λ k. omega (arith, c.shared_slice_known-1.given k)) c.requires)
