-- What 27 to 31 let pass: each pair means something, and the only HLT is the last pair and the last event.
-- all_mean      each pair means something
-- hlt-only      HLT is the only meaning of its kind
-- voice-halts   a voice of at least one pair, played out, ends in its only HLT
use Prim.Native.Nat.{ℕ, suc, ◌+◌}
use mathlib.Core.Path.{◌≡◌, refl, sym, ◌∙◌, subst}
use mathlib.Core.Bool.{Bool, true, false, not, cond}
use mathlib.Core.List.{List, [], ◌∷◌}
use mathlib.Core.Logic.{◌⊎◌, inl, inr, ⊎_elim}
use native.Mathlib.Omega.{arith}
use lib.ListN.{length}
use borrow.Author.Tests.{eq-eqb}
use Rattle.logic.specs.Cases.{cases}
use Rattle.meaning.specs.declared.Meaning.{Meaning}
use Rattle.refusals.specs.Numbers.{Outcome}
use Rattle.refusals.specs.Numbers.Outcome.{accepted, refused}
use Rattle.refusals.specs.Tests.{None}
use Rattle.pair.specs.Pairs.{meaning_of}
use Rattle.kind.specs.declared.Kind.{Kind}
use Rattle.kind.specs.Kinds.{kind_of}
use Rattle.kind.specs.Laws.{kind-bad}
use Rattle.bodies.specs.Voice as voice
use Rattle.bodies.specs.Bodies.{event_at, piece, pieces}
use Rattle.bodies.specs.Playing.{played}
use Rattle.bodies.specs.Faithful.{AllMean, Goes, EndsInHlt}
use Rattle.bodies.proofs.Phrases.{differ}
use Rattle.bodies.proofs.Everywhere.{piece_has}
use Rattle.bodies.proofs.Halting.{Stops, Ending, ends_in_hlt}
use Rattle.structure.specs.Tests.{is_hlt, pair_tests, start}
use Rattle.structure.specs.Findings.{is_last, pairs_tests, nestings_tests, AllNone}
use Rattle.structure.proofs.Sound.{sound}

pair-means : (o : Outcome Meaning) (last : Bool) (v : List (Outcome Meaning))
    → ((n : ℕ) → kind_of o ≡ Kind.Bad n → (n ≡ 27) ⊎ (n ≡ 28))
    → None (pair_tests (kind_of o) last) → AllMean v → AllMean (o ∷ v)
unfolding AllMean
pair-means (accepted m) last v bad t h = h
pair-means (refused n p) last v bad t h =
    absurd (⊎_elim (λ e. differ (sym t.0 ∙ eq-eqb n 27 e)) (λ e. differ (sym t.1.0 ∙ eq-eqb n 28 e)) (bad n refl))

pub all_mean : (bs : List ℕ) → AllNone (pairs_tests (voice.pairs bs)) → AllMean (voice.pairs bs)
unfolding voice.pairs_by voice.pairs pairs_tests AllNone AllMean
all_mean [] t = tt
all_mean (a ∷ []) t = tt
all_mean (a ∷ b ∷ bs) t =
    pair-means (meaning_of a b) (is_last (voice.pairs bs)) (voice.pairs bs) (kind-bad a b) t.0 (all_mean bs t.1)

hlt-only : (o : Outcome Meaning) → is_hlt (kind_of o) ≡ true → o ≡ accepted Meaning.Hlt
hlt-only (refused n p) e = absurd (differ e)
hlt-only (accepted (Meaning.Note n)) e = absurd (differ e)
hlt-only (accepted (Meaning.Dcy v)) e = absurd (differ e)
hlt-only (accepted (Meaning.Rup v)) e = absurd (differ e)
hlt-only (accepted (Meaning.Cal v)) e = absurd (differ e)
hlt-only (accepted (Meaning.Bmp b)) e = absurd (differ e)
hlt-only (accepted (Meaning.Flt y)) e = absurd (differ e)
hlt-only (accepted (Meaning.Rng y)) e = absurd (differ e)
hlt-only (accepted (Meaning.Snc y)) e = absurd (differ e)
hlt-only (accepted (Meaning.Fx y)) e = absurd (differ e)
hlt-only (accepted (Meaning.Def v)) e = absurd (differ e)
hlt-only (accepted (Meaning.Atk v)) e = absurd (differ e)
hlt-only (accepted (Meaning.Sus v)) e = absurd (differ e)
hlt-only (accepted (Meaning.Lfo v)) e = absurd (differ e)
hlt-only (accepted (Meaning.Pv y)) e = absurd (differ e)
hlt-only (accepted (Meaning.Rdn v)) e = absurd (differ e)
hlt-only (accepted (Meaning.Wav v)) e = absurd (differ e)
hlt-only (accepted (Meaning.Fm v)) e = absurd (differ e)
hlt-only (accepted (Meaning.Rls v)) e = absurd (differ e)
hlt-only (accepted (Meaning.Res v)) e = absurd (differ e)
hlt-only (accepted (Meaning.ThreeOff y)) e = absurd (differ e)
hlt-only (accepted (Meaning.Vol v)) e = absurd (differ e)
hlt-only (accepted Meaning.Tal) e = absurd (differ e)
hlt-only (accepted Meaning.End) e = absurd (differ e)
hlt-only (accepted Meaning.Hlt) e = refl
hlt-only (accepted (Meaning.Src v)) e = absurd (differ e)
hlt-only (accepted (Meaning.Dst v)) e = absurd (differ e)
hlt-only (accepted (Meaning.Pw v)) e = absurd (differ e)
hlt-only (accepted (Meaning.Tem v)) e = absurd (differ e)
hlt-only (accepted (Meaning.Utl v)) e = absurd (differ e)
hlt-only (accepted (Meaning.Pnt v)) e = absurd (differ e)
hlt-only (accepted (Meaning.Hed v)) e = absurd (differ e)
hlt-only (accepted (Meaning.Flg v)) e = absurd (differ e)
hlt-only (accepted (Meaning.Ps z)) e = absurd (differ e)
hlt-only (accepted (Meaning.Fs z)) e = absurd (differ e)
hlt-only (accepted (Meaning.Sca z)) e = absurd (differ e)
hlt-only (accepted (Meaning.Vdp v)) e = absurd (differ e)
hlt-only (accepted (Meaning.Vrt v)) e = absurd (differ e)
hlt-only (accepted (Meaning.Aut z)) e = absurd (differ e)
hlt-only (accepted (Meaning.Tps z)) e = absurd (differ e)
hlt-only (accepted (Meaning.Aux v)) e = absurd (differ e)
hlt-only (accepted (Meaning.Pvd v)) e = absurd (differ e)
hlt-only (accepted (Meaning.Pvr v)) e = absurd (differ e)
hlt-only (accepted (Meaning.Max v)) e = absurd (differ e)
hlt-only (accepted (Meaning.Utv v)) e = absurd (differ e)
hlt-only (accepted (Meaning.Fc v)) e = absurd (differ e)
hlt-only (accepted (Meaning.Rtp z)) e = absurd (differ e)
hlt-only (accepted (Meaning.Hld v)) e = absurd (differ e)
hlt-only (accepted (Meaning.Ms v)) e = absurd (differ e)
hlt-only (accepted (Meaning.Jif z)) e = absurd (differ e)
hlt-only (accepted (Meaning.Dtn z)) e = absurd (differ e)
hlt-only (accepted (Meaning.Por v)) e = absurd (differ e)

-- 29 at the last pair, and at any other
last-halts : (o : Outcome Meaning) → cond (is_hlt (kind_of o)) (not true) true ≡ false → o ≡ accepted Meaning.Hlt
last-halts o t = hlt-only o (cases (is_hlt (kind_of o)) (λ e. e) (λ e. absurd (differ (sym (rw e at t)))))

early_none : (o : Outcome Meaning) → cond (is_hlt (kind_of o)) (not false) false ≡ false → o ≡ accepted Meaning.Hlt → ⊥
early_none o t q = differ (sym (subst (λ (x : Outcome Meaning). cond (is_hlt (kind_of x)) (not false) false ≡ false) q t))

-- the stored pairs from number i on, n in all
stored_ending : (i n : ℕ) (m : Outcome Meaning) (v : List (Outcome Meaning)) → i + suc (length v) ≡ n
    → AllNone (pairs_tests (m ∷ v)) → Ending n (pieces i (m ∷ v))
unfolding pieces piece pairs_tests AllNone Ending
stored_ending i n m [] e t =
    inl (
      subst (λ (o : Outcome Meaning). Stops n (piece (event_at i o) (kind_of o)))
          (sym (last-halts m t.0.1.1.0)) (omega arith, refl),
      tt,
    )
stored_ending i n m (m' ∷ v) e t =
    inr (
      piece_has Goes (event_at i m) (kind_of m) (early_none m t.0.1.1.0),
      stored_ending (i + 1) n m' v (omega arith) t.1,
    )

pub voice-halts : (m : Outcome Meaning) (v : List (Outcome Meaning)) → AllNone (pairs_tests (m ∷ v))
    → AllNone (nestings_tests start (m ∷ v)) → EndsInHlt (played (m ∷ v)) (length (m ∷ v))
voice-halts m v p n = ends_in_hlt (m ∷ v) (sound (m ∷ v) p n) (stored_ending 0 (length (m ∷ v)) m v (omega arith) p)
