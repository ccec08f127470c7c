-- The two passes over the stored pairs, a pair at a time.
-- is-last                 what the code asks for the last pair
-- pair_failed, pair-passed, plain-passed, pair_end   27 to 29
-- held, nesting_at, Seen, seen_start   what is open and closed so far, as the code keeps it
-- step-off, step-on, step-few, plain-on, nest_end   30 and 31
-- number-few, none_held   what the cells are asked for, and hold at first
use Prim.Native.Nat.{ℕ, zero, suc, ◌+◌, ◌/◌, ◌<◌, ◌≤◌}
use mathlib.Core.Path.{◌≡◌, refl, sym, ◌∙◌, subst, fun_ext}
use mathlib.Core.List.{List, [], ◌∷◌}
use native.Mathlib.Omega.{arith}
use native.Mathlib.Decide.{dec_lt}
use lib.Dec.{eqb}
use borrow.Author.Tests.{eq-eqb, ne_eqb}
use lib.ListN.{length, drop, get_or, set, length-set}
use Rattle.logic.specs.Cases.{cases}
use Rattle.refusals.specs.Tests.{first_of}
use Rattle.refusals.specs.Tests.{Verdict}
use Rattle.std.specs.Prelude.{Result, Ok, Err, Option, Some, None, IfSome, Bool, true, false}
use Rattle.refusals.specs.declared.Reason.{Reason}
use Rattle.kind.specs.declared.Kind.{Kind}
use Rattle.kind.specs.declared.Kind.TheVariants.{Event, Hed, Tal, Def, End, Cal, Hlt, Bad}
use Rattle.kind.specs.Kinds.{kind_of, Numbered}
use Rattle.bodies.specs.Voice.{pairs, pair_at}
use Rattle.bodies.specs.Order.{also, none_closed}
use Rattle.bodies.proofs.Stored.{pairs_cons, pairs_end}
use Rattle.bodies.proofs.Cells.{set_at}
use Rattle.structure.specs.declared.nesting.Open.{Open}
use Rattle.structure.specs.declared.nesting.Step.{Step}
use Rattle.structure.specs.Tests.{pair_tests, Nesting, nesting_tests, closed_after, nesting_after}
use Rattle.structure.specs.Findings.{Clear, At, first_at, is_last, pairs_tests, nestings_tests, structure_finding}
use Rattle.structure.proofs.Openers.{event-on}
use Rattle.structure.specs.Steps.{openers_of, known, number_in, Few, Moves, closed_with, Closes, Stepped}

module _ (bs : List ℕ) (i : ℕ) (h : i < length bs / 2) where
  is-last : is_last (drop (i + 1) (pairs bs)) ≡ eqb (i + 1) (length bs / 2)
  is-last =
      elim (dec_lt (i + 1) (length bs / 2)) [
        | yes p ↦ rw (pairs_cons bs (i + 1) p, ne_eqb (i + 1) (length bs / 2) (λ e. absurd (omega arith)))
        | no q ↦ rw (pairs_end bs (i + 1) (omega arith), eq-eqb (i + 1) (length bs / 2) (omega arith))
      ]

  abbrev verdict : Verdict
  verdict = first_of (pair_tests (kind_of (pair_at bs i)) (eqb (i + 1) (length bs / 2)))

  pub pair_failed : (m : Reason) → verdict ≡ Err m → first_at i (pairs_tests (drop i (pairs bs))) ≡ At m i
  unfolding first_at pairs_tests
  pair_failed m e = rw (pairs_cons bs i h, is-last, e)

  pub pair-passed : verdict ≡ Ok tt → first_at i (pairs_tests (drop i (pairs bs))) ≡ first_at (i + 1) (pairs_tests (drop (i + 1) (pairs bs)))
  unfolding first_at pairs_tests
  pair-passed e = rw (pairs_cons bs i h, is-last, e)

  -- an event that is not the last
  pub plain-passed : kind_of (pair_at bs i) ≡ Event → eqb (i + 1) (length bs / 2) ≡ false → first_at i (pairs_tests (drop i (pairs bs))) ≡ first_at (i + 1) (pairs_tests (drop (i + 1) (pairs bs)))
  plain-passed k l = pair-passed (rw (k, l))

pub pair_end : (bs : List ℕ) (i : ℕ) → length bs / 2 ≤ i → first_at i (pairs_tests (drop i (pairs bs))) ≡ Clear
unfolding first_at pairs_tests
pair_end bs i h = rw (pairs_end bs i h)

-- the numbers that the cells hold as closed
abbrev pub held : List Bool → ℕ → Bool
held cells k = get_or cells k false

abbrev pub nesting_at : Open → List Bool → Nesting
nesting_at o cells = record { openers = openers_of o; closed = held cells }

pub record Seen (bs : List ℕ) (cells : List Bool) (o : Open) (i : ℕ) : Type 0 where
  pub finds : first_at i (nestings_tests (nesting_at o cells) (drop i (pairs bs))) ≡ structure_finding (pairs bs)
  pub few : Few o i
  pub cells-few : length cells ≡ 24

-- only the number of a DEF or a CAL is asked for
asked-once : (z : Kind) (o : Open) (f : ℕ → Bool)
    → first_of (nesting_tests z (record { openers = openers_of o; closed = f })) ≡ first_of (nesting_tests z (known o (f (number_in z))))
asked-once Event o f = refl
asked-once (Hed n) o f = refl
asked-once Tal o f = refl
asked-once (Def k) o f = refl
asked-once End o f = refl
asked-once (Cal k) o f = refl
asked-once Hlt o f = refl
asked-once (Bad n) o f = refl

-- a cell set is a number more that is closed
held_more : (cells : List Bool) (k : ℕ) → k < length cells → held (set cells k true) ≡ also k (held cells)
held_more cells k h = fun_ext (λ j. rw (set_at false cells k j true h) (cases (eqb k j) (λ e. rw e) (λ e. rw e)))

module _ (bs : List ℕ) (cells : List Bool) (o : Open) (i : ℕ) (s : Seen bs cells o i) (h : i < length bs / 2) where
  abbrev z : Kind
  z = kind_of (pair_at bs i)

  abbrev verdict' : Verdict
  verdict' = first_of (nesting_tests z (known o (held cells (number_in z))))

  nest_failed : (m : Reason) → verdict' ≡ Err m → structure_finding (pairs bs) ≡ At m i
  unfolding first_at nestings_tests
  nest_failed m e = sym s.finds ∙ rw (pairs_cons bs i h, asked-once z o (held cells) ∙ e)

  passed : verdict' ≡ Ok tt
      → first_at (i + 1) (nestings_tests (nesting_after z (nesting_at o cells)) (drop (i + 1) (pairs bs))) ≡ structure_finding (pairs bs)
  unfolding first_at nestings_tests
  passed e =
      let on : first_at i (nestings_tests (nesting_at o cells) (drop i (pairs bs))) ≡ first_at (i + 1) (nestings_tests (nesting_after z (nesting_at o cells)) (drop (i + 1) (pairs bs))) = rw (pairs_cons bs i h, asked-once z o (held cells) ∙ e) in
      sym on ∙ s.finds

  nest_on : (p : Open) → verdict' ≡ Ok tt → Moves z o p → ((f : ℕ → Bool) → closed_after z (openers_of o) f ≡ f) → Seen bs cells p (i + 1)
  nest_on p e m c =
      record {
        finds = rw (sym (c (held cells)), m.opens) (passed e);
        few = m.few i s.few;
        cells-few = s.cells-few;
      }

  nest_closes : (p : Open) (k : ℕ) → verdict' ≡ Ok tt → Moves z o p → ((f : ℕ → Bool) → closed_after z (openers_of o) f ≡ also k f) → k < 24
      → Seen bs (set cells k true) p (i + 1)
  nest_closes p k e m c l =
      record {
        finds = rw (held_more cells k (omega (arith, s.cells-few)), sym (c (held cells)), m.opens) (passed e);
        few = m.few i s.few;
        cells-few = length-set cells k true ∙ s.cells-few;
      }

pub nest_end : (bs : List ℕ) (cells : List Bool) (o : Open) (i : ℕ) → Seen bs cells o i → length bs / 2 ≤ i → structure_finding (pairs bs) ≡ Clear
unfolding first_at nestings_tests
nest_end bs cells o i s h = sym s.finds ∙ rw (pairs_end bs i h)

pub seen_start : (bs : List ℕ) (cells : List Bool) (o : Open) → openers_of o ≡ [] → held cells ≡ none_closed → length cells ≡ 24 → Few o 0 → Seen bs cells o 0
unfolding structure_finding
seen_start bs cells o e h l f = record { finds = rw (e, h); few = f; cells-few = l }

pub number-few : (z : Kind) → Numbered z → number_in z < 24
number-few Event n = omega arith
number-few (Hed k) n = omega arith
number-few Tal n = omega arith
number-few (Def k) n = n
number-few End n = omega arith
number-few (Cal k) n = n
number-few Hlt n = omega arith
number-few (Bad m) n = omega arith

-- the step that the code made, by a kind, a number and a step that it holds
module _ (bs : List ℕ) (cells : List Bool) (o : Open) (i : ℕ) (s : Seen bs cells o i) (h : i < length bs / 2) {y : Kind} {n : ℕ} (e : y ≡ kind_of (pair_at bs i)) (f : n ≡ number_in y) where
  step_at : (r : Result Step Reason) → Stepped y o (held cells n) r → Stepped (kind_of (pair_at bs i)) o (held cells (number_in (kind_of (pair_at bs i)))) r
  step_at r g = subst (λ (x : Kind). Stepped x o (held cells (number_in x)) r) e (subst (λ (k : ℕ). Stepped y o (held cells k) r) f g)

  pub step-off : {r : Result Step Reason} (m : Reason) → r ≡ Err m → Stepped y o (held cells n) r → At m i ≡ structure_finding (pairs bs)
  step-off {r} m q g = sym (nest_failed bs cells o i s h m (subst (Stepped (kind_of (pair_at bs i)) o (held cells (number_in (kind_of (pair_at bs i))))) q (step_at r g)))

  pub step-on : {r : Result Step Reason} (p : Step) → r ≡ Ok p → Stepped y o (held cells n) r → Seen bs (closed_with cells p.closes) p.after (i + 1)
  step-on {r} p q g =
      let x = subst (Stepped (kind_of (pair_at bs i)) o (held cells (number_in (kind_of (pair_at bs i))))) q (step_at r g) in
      go p.closes x.0 x.1 x.2
    where
      go : (m : Option ℕ) → first_of (nesting_tests (kind_of (pair_at bs i)) (known o (held cells (number_in (kind_of (pair_at bs i)))))) ≡ Ok tt
          → Moves (kind_of (pair_at bs i)) o p.after → Closes (kind_of (pair_at bs i)) o m → Seen bs (closed_with cells m) p.after (i + 1)
      go None t m c = nest_on bs cells o i s h p.after t m c
      go (Some k) t m c = nest_closes bs cells o i s h p.after k t m c.0 c.1

  pub step-few : {r : Result Step Reason} (p : Step) → r ≡ Ok p → Stepped y o (held cells n) r → IfSome p.closes (λ k. k < 24)
  step-few p q g = go p.closes (subst (Stepped y o (held cells n)) q g).2
    where
      go : (m : Option ℕ) → Closes y o m → IfSome m (λ k. k < 24)
      go None c = tt
      go (Some k) c = c.1

-- a plain event changes nothing
pub plain-on : (bs : List ℕ) (cells : List Bool) (o : Open) (i : ℕ) → Seen bs cells o i → i < length bs / 2 → kind_of (pair_at bs i) ≡ Event → Seen bs cells o (i + 1)
plain-on bs cells o i s h k = step-on bs cells o i s h (sym k) refl (record { after = o; closes = None }) refl (event-on o)

abbrev unset : ℕ → List Bool
unset zero = []
unset (suc n) = false ∷ unset n

unset-at : (n k : ℕ) → get_or (unset n) k false ≡ false
unset-at zero k = refl
unset-at (suc n) zero = refl
unset-at (suc n) (suc k) = unset-at n k

pub none_held : held (unset 24) ≡ none_closed
none_held = fun_ext (λ k. unset-at 24 k)
