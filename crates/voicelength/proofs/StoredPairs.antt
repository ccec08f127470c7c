-- What is known at a stored pair, by the step that the code takes there.
-- AtStep, at_step, at_move   of each step
-- event-read        after an event, by its two bytes
use Prim.Native.Nat.{ℕ, ◌+◌, ◌*◌, ◌/◌, ◌<◌}
use mathlib.Core.Path.{◌≡◌, refl, sym, ap, ◌∙◌, subst}
use mathlib.Core.List.{List, ◌∷◌}
use lib.ListN.{length, get_or}
use Rattle.std.specs.Prelude.{Option, Some, None}
use Rattle.kind.specs.declared.Kind.{Kind}
use Rattle.kind.specs.Kinds.{kind_of, Numbered}
use Rattle.kind.specs.Laws.{kind-numbered}
use Rattle.pair.specs.Pairs.{meaning_of}
use Rattle.timemap.specs.declared.TimeMap.{TimeMap}
use Rattle.timemap.specs.Maps.{joined}
use Rattle.pairmap.specs.Pairs.{single}
use Rattle.pairmap.proofs.Within.{within-single}
use Rattle.bodies.specs.Voice.{bytes_at, pair_at}
use Rattle.meaning.specs.declared.Bytes.{Bytes}
use Rattle.bodies.specs.Bodies.{event, call, inner, outer, event_at}
use Rattle.bodies.proofs.Stored.{event_at_lem, hlt_at, bad_at, hed_at, tal_at, def_at, end_at, cal_at}
use Rattle.walk.proofs.Facts.{facts}
use Rattle.voicelength.specs.declared.reading.Open.{Open}
use Rattle.moves.specs.declared.Move.{Move}
use Rattle.moves.specs.declared.Move.TheVariants.{Repeat, Phrase, Call, Tal, End}
use Rattle.moves.specs.Moves.{next_of}
use Rattle.voicelength.proofs.Progress.{Reading, left}
use Rattle.voicelength.proofs.PairSteps.{next, read-event, Opening, read-hed, read-def, AtTal, read-tal, AtEnd, read-end}

module _ {bs : List ℕ} {around : List Open} {phrases : List TimeMap} {now : TimeMap} {at : ℕ}
    (r : Reading bs around phrases now at) where
  abbrev pub AtStep : Option Move → Type 0
  AtStep None = left r ≡ event (event_at at (pair_at bs at)) (inner (next r)) ∷ outer (next r)
  AtStep (Some (Repeat n)) = Opening r n
  AtStep (Some (Phrase k)) = Opening r k
  AtStep (Some (Call k)) = (left r ≡ call k (inner (next r)) ∷ outer (next r)) × (k < 24)
  AtStep (Some Tal) = AtTal r
  AtStep (Some End) = AtEnd r

  module _ (h : at < length bs / 2) where
    by_kind : (z : Kind) → kind_of (pair_at bs at) ≡ z → Numbered z → AtStep (next_of z)
    by_kind Kind.Event q b = event_at_lem bs at h q
    by_kind (Kind.Hed n) q b = read-hed r n ((facts bs r.readable.passes).hed at n h q) b (hed_at bs at h n q)
    by_kind Kind.Tal q b = read-tal r (tal_at bs at h q)
    by_kind (Kind.Def k) q b = read-def r k b (def_at bs at h k q)
    by_kind Kind.End q b = read-end r (end_at bs at h q)
    by_kind (Kind.Cal k) q b = (cal_at bs at h k q, b)
    by_kind Kind.Hlt q b = hlt_at bs at h q
    by_kind (Kind.Bad n) q b = bad_at bs at h n q

    pub at_step : {p : Bytes} {s t : Option Move} → p ≡ bytes_at bs at → s ≡ next_of (kind_of (meaning_of p.first p.second))
        → s ≡ t → AtStep t
    unfolding pair_at
    at_step b k e =
        let n = kind-numbered (get_or bs (2 * at) 0) (get_or bs (2 * at + 1) 0) (r.bytes (2 * at + 1)) in
        let is = k ∙ ap (λ (x : Bytes). next_of (kind_of (meaning_of x.first x.second))) b in
        subst AtStep e (subst AtStep (sym is) (by_kind (kind_of (pair_at bs at)) refl n))

    pub at_move : {p : Bytes} {s : Option Move} {f m : Move} → p ≡ bytes_at bs at
        → s ≡ next_of (kind_of (meaning_of p.first p.second)) → s ≡ Some f → f ≡ m → AtStep (Some m)
    at_move b k e d = at_step b k (e ∙ ap Some d)

    pub event-read : AtStep None → Reading bs around phrases (joined now (single (pair_at bs at))) (at + 1)
    unfolding pair_at
    event-read q =
        read-event r (event_at at (pair_at bs at))
        (within-single (get_or bs (2 * at) 0) (get_or bs (2 * at + 1) 0) (r.bytes (2 * at)) (r.bytes (2 * at + 1))) q
