-- `bodies::kind_at` meets its contract.
use Prim.Native.Nat.{ℕ, ◌+◌, ◌*◌, ◌<◌}
use mathlib.Core.Path.{◌≡◌, subst, sym}
use mathlib.Core.List.{List}
use lib.ListN.{get_or}
use Rattle.kind.specs.declared.Kind.{Kind}
use Rattle.kind.specs.Kinds.{Numbered, kind_of}
use Rattle.kind.specs.Laws.{kind-numbered}
use Rattle.bodies.specs.Voice.{pair_at}
use Rattle.bodies.proofs.kind_at.Goals as goal

with_number : (bs : List ℕ) (i : ℕ) (k : Kind) → get_or bs (2 * i + 1) 0 < 256 → k ≡ kind_of (pair_at bs i)
    → (k ≡ kind_of (pair_at bs i)) × Numbered k
unfolding pair_at
with_number bs i k b e = (e, subst Numbered (sym e) (kind-numbered (get_or bs (2 * i) 0) _ b))

pub returns : goal.returns
unfolding pair_at
returns c =
    let args = c.args in
    let i = args.i in
    let bytes = c.shared_slice_known-1.given in
    with_number args.voice.now i _ (bytes (2 * i + 1)).fits (rw c.bytes_at-pair.ensures at c.kind_of.ensures)
