-- `bytes_from` meets its contract: a part as long as the file is all that is left. Assumes nothing.
use mathlib.Core.Path.{◌∙◌}
use native.Mathlib.Omega.{arith}
use lib.ListN.{length, drop, length-drop}
use lib.Seq.{take_all}
use Rattle.sapblocks.proofs.bytes_from.Goals as goal

pub returns : goal.returns
returns c =
    let a = c.args in
    let f = a.file.now in
    c.part.ensures ∙ take_all (length f) (drop a.at f) (simp length-drop (omega arith))
