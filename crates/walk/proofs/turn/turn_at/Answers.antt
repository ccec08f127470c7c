-- `walk::turn::turn_at` meets its contract.
use Prim.Native.Nat.{ℕ, ◌+◌, ◌*◌, ◌/◌}
use mathlib.Core.Path.{◌≡◌, refl}
use mathlib.Core.List.{List}
use Rattle.pair.specs.Pairs.{meaning_of}
use Rattle.clock.specs.declared.Values.{Values}
use Rattle.clock.specs.Lengths.{length_of, values_after}
use Rattle.meaning.specs.declared.Bytes.{Bytes}
use Rattle.bodies.specs.Voice.{bytes_at, pair_at}
use Rattle.walk.specs.declared.turn.Clock.{Clock}
use Rattle.walk.specs.declared.turn.Turn.{Turn}
use Rattle.walk.specs.Turns.{turn_of}
use Rattle.walk.proofs.turn.turn_at.Goals as goal

turned : (bs : List ℕ) (base at : ℕ) (before : Clock) (pair : Bytes) (n : ℕ) (values : Values) → pair ≡ bytes_at bs at
    → n ≡ length_of before.values (meaning_of pair.first pair.second) → values ≡ values_after before.values (meaning_of pair.first pair.second)
    → ◌≡◌ {A = Turn} (record { offset = base + 2 * at; jiffy = before.time / 384; after = record { time = before.time + n; values = values } }) (turn_of base at before (pair_at bs at))
unfolding pair_at
turned bs base at before pair n values p l v = rw (l, v, p) refl

pub returns : goal.returns
returns c =
    let args = c.args in
    turned args.voice.now args.base args.at args.before _ _ _ c.bytes_at-pair.ensures c.length-length.ensures c.values_after.ensures
