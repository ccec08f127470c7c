use mathlib.Core.Path.{◌≡◌, refl}
use native.Mathlib.Numerals.{add-one}
use native.Mathlib.Omega.{arith}
use native.Mathlib.Nat.{le_refl}
use lib.Seq.{paste-zero, paste-suc, take_all}
use lib.ListN.{length, length-set}
use Rattle.fields.specs.Parts.{put}
use Rattle.fields.proofs.copy_to.Goals as goal

pub loop-j-init : goal.loop-j-init
loop-j-init c = (omega arith, paste-zero c.args.memory.now c.args.at c.args.src.now, refl)

pub loop-j-preserved : goal.loop-j-preserved
loop-j-preserved c =
    let a = c.args in (
      omega arith,
      rw (add-one, c.loop-j.invariant.1) (paste-suc a.memory.now a.at a.src.now c.loop-j.j 0 (omega arith) (omega arith)),
      simp length-set c.loop-j.invariant.2,
    )

pub shape_of-memory : goal.shape_of-memory
shape_of-memory c = c.loop-j.invariant.2

pub returns : goal.returns
unfolding put
returns c =
    let s = c.args.src.now in
    let e : c.loop-j.j ≡ length s = omega arith in
    rw (c.loop-j.invariant.1, e, take_all (length s) s (le_refl _))
