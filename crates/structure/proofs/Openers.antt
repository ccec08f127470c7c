-- The two counts and the number that the code keeps, as the openers that they stand for.
-- last-hed, last-def, any-def, any_open   what the tests ask of the openers, asked of the counts
-- none-asked            a number that is none
-- event-on to hlt-on   each step of the code, on or off: event-on, hed-off, hed-on, tal-off, tal-on, def-off,
--                      def-on, end-off, end_on, cal-off, cal-on, hlt-off, hlt-on
use Prim.Native.Nat.{ℕ, zero, suc, ◌+◌, ◌-◌, ◌<◌}
use mathlib.Core.Path.{◌≡◌, refl}
use mathlib.Core.Bool.{Bool, true, false, not, ◌&&◌, ◌||◌}
use mathlib.Core.List.{List, [], ◌∷◌}
use native.Mathlib.Numerals.{add-one, sub-one}
use native.Mathlib.Omega.{arith}
use lib.Dec.{eqb}
use borrow.Author.Tests.{eq-eqb, ne_eqb}
use Rattle.logic.specs.Cases.{cases}
use Rattle.kind.specs.declared.Kind.TheVariants.{Event, Hed, Tal, Def, End, Cal, Hlt, Bad}
use Rattle.structure.specs.declared.nesting.Open.{Open}
use Rattle.std.specs.Prelude.{Result, Ok, Err, Option, Some, None, is_some, is_none, IfSome}
use Rattle.refusals.specs.declared.Reason.{Reason}
use Rattle.refusals.specs.declared.Reason.TheVariants.{Structure, HedZero}
use Rattle.structure.specs.declared.nesting.Step.{Step}
use Rattle.structure.specs.Tests.{Opener, by_def, last_hed, last_def, any_def, any, openers_after}
use Rattle.structure.specs.Steps.{heds, in_phrase, openers_of, Few, Stepped}

some_left : (n : ℕ) → eqb (suc n) 0 ≡ false
some_left n = ne_eqb (suc n) 0 (λ e. absurd (omega arith))

-- what the code asks where no DEF is open
pub none-asked : (p : Option ℕ) (b : Bool) → is_some p ≡ not b → b ≡ is_none p
none-asked None true e = refl
none-asked None false e = e
none-asked (Some k) true e = e
none-asked (Some k) false e = refl

module _ (os : List Opener) where
  hed-heds : (n : ℕ) (p : Option ℕ) → last_hed (heds n (in_phrase p os)) ≡ not (eqb n 0)
  unfolding heds
  hed-heds zero None = refl
  hed-heds zero (Some k) = refl
  hed-heds (suc n) p = rw (some_left n)

  def-heds : (n : ℕ) (p : Option ℕ) → last_def (heds n (in_phrase p os)) ≡ eqb n 0 && is_some p
  unfolding heds
  def-heds zero None = refl
  def-heds zero (Some k) = refl
  def-heds (suc n) p = rw (some_left n)

  defs_heds : (n : ℕ) (p : Option ℕ) → any_def (heds n (in_phrase p os)) ≡ is_some p
  unfolding heds
  defs_heds zero None = refl
  defs_heds zero (Some k) = refl
  defs_heds (suc n) p = defs_heds n p

  any-heds : (n : ℕ) (p : Option ℕ) → any (heds n (in_phrase p os)) ≡ not (eqb n 0 && is_none p)
  unfolding heds
  any-heds zero None = refl
  any-heds zero (Some k) = refl
  any-heds (suc n) p = rw (some_left n)

module _ (o : Open) where
  last-hed : last_hed (openers_of o) ≡ not (eqb o.inside 0)
  unfolding openers_of
  last-hed = hed-heds (heds o.outside []) o.inside o.phrase

  last-def : last_def (openers_of o) ≡ eqb o.inside 0 && is_some o.phrase
  unfolding openers_of
  last-def = def-heds (heds o.outside []) o.inside o.phrase

  any-def : any_def (openers_of o) ≡ is_some o.phrase
  unfolding openers_of
  any-def = defs_heds (heds o.outside []) o.inside o.phrase

  any_open : any (openers_of o) ≡ not (eqb o.inside 0 && is_none o.phrase)
  unfolding openers_of
  any_open = any-heds (heds o.outside []) o.inside o.phrase

  abbrev pub step : Open → Option ℕ → Step
  step p closes = record { after = p; closes = closes }

  -- nothing opens and nothing closes
  stay : (n : ℕ) → Few o n → Few o (n + 1)
  stay n f = record { inside = omega (arith, f.inside); outside = omega (arith, f.outside); phrase = f.phrase }

  pub event-on : Stepped Event o true (Ok (step o None))
  event-on = (refl, record { opens = refl; few = stay }, λ f. refl)

  pub bad-on : (n : ℕ) → Stepped (Bad n) o true (Ok (step o None))
  bad-on n = (refl, record { opens = refl; few = stay }, λ f. refl)

  pub hed-off : (n : ℕ) → n ≡ 0 → Stepped (Hed n) o true (Err HedZero)
  hed-off n e = rw (eq-eqb n 0 e)

  pub hed-on : (n : ℕ) → (n ≡ 0 → ⊥) → Stepped (Hed n) o true (Ok (step (record { inside = o.inside + 1; outside = o.outside; phrase = o.phrase }) None))
  unfolding openers_of heds
  hed-on n q = (
    rw (ne_eqb n 0 q),
    record {
      opens = rw (add-one o.inside);
      few = λ m f. record { inside = omega (arith, f.inside); outside = omega (arith, f.outside); phrase = f.phrase };
    },
    λ f. refl,
  )

  pub tal-off : o.inside ≡ 0 → Stepped Tal o true (Err Structure)
  tal-off e = rw (last-hed, eq-eqb o.inside 0 e)

  pub tal-on : (o.inside ≡ 0 → ⊥) → Stepped Tal o true (Ok (step (record { inside = o.inside - 1; outside = o.outside; phrase = o.phrase }) None))
  unfolding openers_of heds
  tal-on q = (
    rw (last-hed, ne_eqb o.inside 0 q),
    record {
      opens = go o.inside q (in_phrase o.phrase (heds o.outside []));
      few = λ m f. record { inside = omega (arith, f.inside); outside = omega (arith, f.outside); phrase = f.phrase };
    },
    λ f. refl,
  )
    where
      go : (n : ℕ) → (n ≡ 0 → ⊥) → (os : List Opener) → heds (n - 1) os ≡ openers_after Tal (heds n os)
      go zero q os = absurd (q refl)
      go (suc n) q os = rw (sub-one (suc n))

  pub def-off : (k : ℕ) (closed : Bool) → is_some o.phrase || closed ≡ true → Stepped (Def k) o closed (Err Structure)
  def-off k closed e = rw (any-def, e)

  pub def-on : (k : ℕ) (closed : Bool) → k < 24 → is_some o.phrase || closed ≡ false → Stepped (Def k) o closed (Ok (step (record { inside = 0; outside = o.inside; phrase = Some k }) None))
  unfolding openers_of heds
  def-on k closed h e = (
    rw (any-def, e),
    record {
      opens = none o.phrase e;
      few = λ m f. record { inside = omega arith; outside = omega (arith, f.inside); phrase = h };
    },
    λ f. refl,
  )
    where
      none : (p : Option ℕ) → is_some p || closed ≡ false → by_def k ∷ heds o.inside [] ≡ by_def k ∷ heds o.inside (in_phrase p (heds o.outside []))
      none None e = refl
      none (Some j) e = absurd (let z : ◌≡◌ {A = ℕ} 0 1 = cc in omega arith)

  pub cal-off : (k : ℕ) → Stepped (Cal k) o false (Err Structure)
  cal-off k = refl

  pub cal-on : (k : ℕ) → Stepped (Cal k) o true (Ok (step o None))
  cal-on k = (refl, record { opens = refl; few = stay }, λ f. refl)

  pub hlt-off : eqb o.inside 0 && is_none o.phrase ≡ false → Stepped Hlt o true (Err Structure)
  hlt-off e = rw (any_open, e)

  pub hlt-on : eqb o.inside 0 && is_none o.phrase ≡ true → Stepped Hlt o true (Ok (step o None))
  hlt-on e = (rw (any_open, e), record { opens = refl; few = stay }, λ f. refl)

  pub end-none : o.phrase ≡ None → Stepped End o true (Err Structure)
  end-none e = cases (eqb o.inside 0) (λ q. rw (last-def, q, e)) (λ q. rw (last-def, q))

  pub end-off : (o.inside ≡ 0 → ⊥) → Stepped End o true (Err Structure)
  end-off q = rw (last-def, ne_eqb o.inside 0 q)

  pub end_on : (k : ℕ) → IfSome o.phrase (λ k. k < 24) → o.phrase ≡ Some k → o.inside ≡ 0 → Stepped End o true (Ok (step (record { inside = o.outside; outside = 0; phrase = None }) (Some k)))
  unfolding openers_of heds
  end_on k h e none = (
    rw (last-def, none, e),
    record {
      opens = rw (none, e);
      few = λ m f. record { inside = omega (arith, f.outside); outside = omega arith; phrase = tt };
    },
    (λ f. rw (none, e), rw e at h),
  )

  -- HED, TAL and END do not ask which numbers are closed
  pub hed-any : (n : ℕ) (closed : Bool) (r : Result Step Reason) → Stepped (Hed n) o true r → Stepped (Hed n) o closed r
  hed-any n closed (Ok p) s = s
  hed-any n closed (Err m) s = s

  pub tal-any : (closed : Bool) (r : Result Step Reason) → Stepped Tal o true r → Stepped Tal o closed r
  tal-any closed (Ok p) s = s
  tal-any closed (Err m) s = s

  pub end-any : (closed : Bool) (r : Result Step Reason) → Stepped End o true r → Stepped End o closed r
  end-any closed (Ok p) s = s
  end-any closed (Err m) s = s
