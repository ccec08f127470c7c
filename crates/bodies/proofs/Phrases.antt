-- In a voice whose DEFs and CALs are in order a CAL stands for the body of the one DEF of its number,
-- whatever is made of bodies.
-- closed-more, closed-kept   a number that is closed stays closed
-- flat-closes, flat_none     a body without a DEF closes no number and defines none
-- fresh                      a number that is closed is not defined again
-- keep, agree                what is made of a closed number stays, and so does what is made of a body, by
--                            what is closed before and in it
-- the_one                    a number that a body closes has one DEF in it, and stands for what is made of
--                            that DEF's body
-- call-stands                so for each CAL of a voice
use Prim.Native.Nat.{ℕ}
use mathlib.Core.Path.{◌≡◌, refl, sym, ap, ◌∙◌, subst}
use mathlib.Core.Bool.{Bool, true, false}
use mathlib.Core.List.{List, []}
use mathlib.Core.Logic.{⊎_elim}
use native.Mathlib.Omega.{arith}
use lib.Dec.{eqb}
use borrow.Author.Tests.{eqb-true, eq-eqb}
use Rattle.logic.specs.Cases.{cases}
use Rattle.meaning.specs.declared.Meaning.{Meaning}
use Rattle.refusals.specs.Numbers.{Outcome}
use Rattle.bodies.specs.Bodies.{Body, done, event, repeat, phrase, call, body_of}
use Rattle.bodies.specs.Playing.{Interpretation, interpret, learn, phrases, phrases_of}
use Rattle.bodies.specs.Order.{also, closed_in, Flat, Ordered, definitions, Called, none_closed, Sound}
use Rattle.bodies.specs.Faithful.{TheOne}

pub differ : false ≡ true → ⊥
differ q = let z : ◌≡◌ {A = ℕ} 0 1 = cc in omega arith

pub closed-more : (k j : ℕ) (K : ℕ → Bool) → K k ≡ true → also j K k ≡ true
closed-more k j K h = cases (eqb j k) (λ e. rw e) (λ e. rw e h)

pub closed-kept : (k : ℕ) (K : ℕ → Bool) (b : Body) → K k ≡ true → closed_in K b k ≡ true
unfolding closed_in
closed-kept k K (done c) h = h
closed-kept k K (event e r) h = closed-kept k K r h
closed-kept k K (repeat n i r) h = closed-kept k (closed_in K i) r (closed-kept k K i h)
closed-kept k K (phrase j i r) h = closed-kept k (also j K) r (closed-more k j K h)
closed-kept k K (call j r) h = closed-kept k K r h

pub flat-closes : (K : ℕ → Bool) (b : Body) → Flat b → closed_in K b ≡ K
unfolding closed_in Flat
flat-closes K (done c) f = refl
flat-closes K (event e r) f = flat-closes K r f
flat-closes K (repeat n i r) f = rw (flat-closes K i f.0) (flat-closes K r f.1)
flat-closes K (phrase j i r) f = absurd f
flat-closes K (call j r) f = flat-closes K r f

pub flat_none : (k : ℕ) (b : Body) → Flat b → definitions k b ≡ []
unfolding definitions Flat
flat_none k (done c) f = refl
flat_none k (event e r) f = flat_none k r f
flat_none k (repeat n i r) f = rw (flat_none k i f.0) (flat_none k r f.1)
flat_none k (phrase j i r) f = absurd f
flat_none k (call j r) f = flat_none k r f

-- a number that is closed and one that is not are two
apart : (k j : ℕ) (K : ℕ → Bool) → K k ≡ true → K j ≡ false → eqb j k ≡ false
apart k j K h g = cases (eqb j k) (λ e. absurd (differ (sym g ∙ (rw (eqb-true j k e) h)))) (λ e. e)

itself : (k : ℕ) (K : ℕ → Bool) → also k K k ≡ true
itself k K = rw (eq-eqb k k refl)

fresh : (k : ℕ) (K : ℕ → Bool) (b : Body) → Ordered K b → K k ≡ true → definitions k b ≡ []
unfolding definitions Ordered
fresh k K (done c) o h = refl
fresh k K (event e r) o h = fresh k K r o h
fresh k K (repeat n i r) o h = rw (fresh k K i o.0 h) (fresh k (closed_in K i) r o.1 (closed-kept k K i h))
fresh k K (phrase j i r) o h = rw (apart k j K h o.0, flat_none k i o.1) (fresh k (also j K) r o.3 (closed-more k j K h))
fresh k K (call j r) o h = fresh k K r o.1 h

-- a number that is open after a body was open before it, and is not defined in it
open_before : (k : ℕ) (K : ℕ → Bool) (b : Body) → closed_in K b k ≡ false → K k ≡ false
open_before k K b h = cases (K k) (λ e. absurd (differ (sym h ∙ closed-kept k K b e))) (λ e. e)

also_open : (k j : ℕ) (K : ℕ → Bool) → also j K k ≡ false → (eqb j k ≡ false) × (K k ≡ false)
also_open k j K h = cases (eqb j k) (λ e. absurd (differ (sym (rw e at h)))) (λ e. (e, rw e at h))

unclosed : (k : ℕ) (K : ℕ → Bool) (b : Body) → Ordered K b → closed_in K b k ≡ false → definitions k b ≡ []
unfolding definitions Ordered closed_in
unclosed k K (done c) o h = refl
unclosed k K (event e r) o h = unclosed k K r o h
unclosed k K (repeat n i r) o h = rw (unclosed k K i o.0 (open_before k (closed_in K i) r h)) (unclosed k (closed_in K i) r o.1 h)
unclosed k K (phrase j i r) o h =
    rw ((also_open k j K (open_before k (also j K) r h)).0, flat_none k i o.1) (unclosed k (also j K) r o.3 h)
unclosed k K (call j r) o h = unclosed k K r o.1 h

module _ {A : Type 0} (m : Interpretation A) where
  abbrev pub Agree : (ℕ → Bool) → (ℕ → A) → (ℕ → A) → Type 0
  Agree K ρ σ = (k : ℕ) → K k ≡ true → ρ k ≡ σ k

  -- what is made of a body is the same by what is closed before and in it
  pub agree : (K : ℕ → Bool) (ρ σ : ℕ → A) (b : Body) → Ordered K b → Agree (closed_in K b) ρ σ → interpret m ρ b ≡ interpret m σ b
  unfolding interpret Ordered closed_in
  agree K ρ σ (done c) o a = refl
  agree K ρ σ (event e r) o a = ap (m.plain e) (agree K ρ σ r o a)
  agree K ρ σ (repeat n i r) o a = cc (agree K ρ σ i o.0 (λ k h. a k (closed-kept k (closed_in K i) r h)), agree (closed_in K i) ρ σ r o.1 a)
  agree K ρ σ (phrase j i r) o a =
      cc (
        agree K ρ σ i o.2 (λ k h. a k (closed-kept k (also j K) r (closed-more k j K (subst (λ (L : ℕ → Bool). L k ≡ true) (flat-closes K i o.1) h)))),
        agree (also j K) ρ σ r o.3 a,
      )
  agree K ρ σ (call j r) o a = cc (a j (closed-kept j K r o.0), agree K ρ σ r o.1 a)

  -- what is made of a closed number stays
  pub keep : (K : ℕ → Bool) (ρ : ℕ → A) (b : Body) (k : ℕ) → Ordered K b → K k ≡ true → phrases m ρ b k ≡ ρ k
  unfolding phrases Ordered
  keep K ρ (done c) k o h = refl
  keep K ρ (event e r) k o h = keep K ρ r k o h
  keep K ρ (repeat n i r) k o h = keep (closed_in K i) (phrases m ρ i) r k o.1 (closed-kept k K i h) ∙ keep K ρ i k o.0 h
  keep K ρ (phrase j i r) k o h =
      keep (also j K) (learn j (interpret m ρ i) ρ) r k o.3 (closed-more k j K h) ∙ rw (apart k j K h o.0)
  keep K ρ (call j r) k o h = keep K ρ r k o.1 h

  pub flat-phrases : (ρ : ℕ → A) (b : Body) → Flat b → phrases m ρ b ≡ ρ
  unfolding phrases Flat
  flat-phrases ρ (done c) f = refl
  flat-phrases ρ (event e r) f = flat-phrases ρ r f
  flat-phrases ρ (repeat n i r) f = rw (flat-phrases ρ i f.0) (flat-phrases ρ r f.1)
  flat-phrases ρ (phrase j i r) f = absurd f
  flat-phrases ρ (call j r) f = flat-phrases ρ r f

  pub here : (σ : ℕ → A) (K : ℕ → Bool) (ρ : ℕ → A) (j : ℕ) (i r : Body) → Ordered K (phrase j i r) → Agree (closed_in K (phrase j i r)) (phrases m ρ (phrase j i r)) σ
      → σ j ≡ interpret m σ i
  unfolding phrases Ordered closed_in
  here σ K ρ j i r o a =
      let ρ' = learn j (interpret m ρ i) ρ in
      let told : phrases m ρ' r j ≡ σ j = a j (closed-kept j (also j K) r (itself j K)) in
      let kept : phrases m ρ' r j ≡ interpret m ρ i = keep (also j K) ρ' r j o.3 (itself j K) ∙ rw (eq-eqb j j refl) in
      let same : interpret m ρ i ≡ interpret m σ i = agree K ρ σ i o.2 (λ l h.
      let h' : K l ≡ true = subst (λ (L : ℕ → Bool). L l ≡ true) (flat-closes K i o.1) h in
      sym (keep K ρ (phrase j i r) l o h') ∙ a l (closed-kept l (also j K) r (closed-more l j K h'))) in
      sym told ∙ kept ∙ same

  pub the_one : (σ : ℕ → A) (K : ℕ → Bool) (ρ : ℕ → A) (b : Body) (k : ℕ) → Ordered K b → Agree (closed_in K b) (phrases m ρ b) σ
      → K k ≡ false → closed_in K b k ≡ true → TheOne m σ k b
  unfolding phrases definitions Ordered closed_in
  the_one σ K ρ (done c) k o a f t = absurd (differ (sym f ∙ t))
  the_one σ K ρ (event e r) k o a f t = let x = the_one σ K ρ r k o a f t in record { body = x.body; only = x.only; means = x.means }
  the_one σ K ρ (repeat n i r) k o a f t =
      cases (closed_in K i k)
      (λ e.
      let x = the_one σ K ρ i k o.0 (λ j h. sym (keep (closed_in K i) (phrases m ρ i) r j o.1 h) ∙ a j (closed-kept j (closed_in K i) r h)) f e in
      record { body = x.body; only = rw (x.only, fresh k (closed_in K i) r o.1 e); means = x.means })
      (λ e.
      let x = the_one σ (closed_in K i) (phrases m ρ i) r k o.1 a e t in
      record { body = x.body; only = rw (unclosed k K i o.0 e) x.only; means = x.means })
  the_one σ K ρ (phrase j i r) k o a f t =
      cases (eqb j k)
      (λ e.
      let q : j ≡ k = eqb-true j k e in
      record {
        body = i;
        only = rw (e, flat_none k i o.1, fresh k (also j K) r o.3 (subst (λ (x : ℕ). also j K x ≡ true) q (itself j K)));
        means = subst (λ (x : ℕ). σ x ≡ interpret m σ i) q (here σ K ρ j i r o a);
      })
      (λ e.
      let x = the_one σ (also j K) (learn j (interpret m ρ i) ρ) r k o.3 a (rw e f) t in
      record { body = x.body; only = rw (e, flat_none k i o.1) x.only; means = x.means })
  the_one σ K ρ (call j r) k o a f t = let x = the_one σ K ρ r k o.1 a f t in record { body = x.body; only = x.only; means = x.means }

-- a number that is called is closed
called-closed : (k : ℕ) (K : ℕ → Bool) (b : Body) → Ordered K b → Called k b → closed_in K b k ≡ true
unfolding Ordered Called closed_in
called-closed k K (done c) o h = absurd h
called-closed k K (event e r) o h = called-closed k K r o h
called-closed k K (repeat n i r) o h =
    ⊎_elim (λ l. closed-kept k (closed_in K i) r (called-closed k K i o.0 l)) (λ l. called-closed k (closed_in K i) r o.1 l) h
called-closed k K (phrase j i r) o h =
    ⊎_elim
    (λ l. closed-kept k (also j K) r (closed-more k j K (subst (λ (L : ℕ → Bool). L k ≡ true) (flat-closes K i o.1) (called-closed k K i o.2 l))))
    (λ l. called-closed k (also j K) r o.3 l)
    h
called-closed k K (call j r) o h =
    ⊎_elim (λ l. closed-kept k K r (subst (λ (x : ℕ). K x ≡ true) l o.0)) (λ l. called-closed k K r o.1 l) h

-- 'CAL k gives one copy of the body of DEF k': of the one DEF k of the voice, whatever is made of bodies
pub call-stands : {A : Type 0} (m : Interpretation A) (v : List (Outcome Meaning)) (k : ℕ) → Sound v → Called k (body_of v) → TheOne m (phrases_of m v) k (body_of v)
call-stands m v k s c =
    the_one m (phrases_of m v) none_closed (λ j. m.nothing) (body_of v) k s.ordered (λ j h. refl) refl (called-closed k none_closed (body_of v) s.ordered c)
