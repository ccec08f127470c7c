-- A body whose DEFs and CALs are in order, read in one pass, gives what its interpretation says.
-- one_pass         of a body
-- one_pass_voice   of a voice
use Prim.Native.Nat.{ℕ}
use mathlib.Core.Path.{◌≡◌, refl, sym, ap, ◌∙◌, subst}
use mathlib.Core.Bool.{Bool, true}
use mathlib.Core.List.{List}
use Rattle.meaning.specs.declared.Meaning.{Meaning}
use Rattle.refusals.specs.Numbers.{Outcome}
use Rattle.bodies.specs.Bodies.{Body, done, event, repeat, phrase, call, body_of}
use Rattle.bodies.specs.Playing.{Interpretation, interpret, learn, phrases, phrases_of, of_voice}
use Rattle.bodies.specs.Order.{also, closed_in, Ordered, none_closed, Sound}
use Rattle.bodies.specs.OnePass.{reading}
use Rattle.bodies.proofs.Phrases.{closed-more, closed-kept, flat-closes, flat-phrases, Agree, agree, keep}

module _ {A : Type 0} (m : Interpretation A) where
  one_pass : (K : ℕ → Bool) (ρ σ : ℕ → A) (b : Body) → Ordered K b → Agree m (closed_in K b) (phrases m ρ b) σ
      → ((reading m ρ b).total ≡ interpret m σ b) × ((reading m ρ b).phrases ≡ phrases m ρ b)
  unfolding reading interpret phrases closed_in Ordered
  one_pass K ρ σ (done c) o a = (refl, refl)
  one_pass K ρ σ (event e r) o a = let x = one_pass K ρ σ r o a in (ap (m.plain e) x.0, x.1)
  one_pass K ρ σ (repeat n i r) o a =
      let x = one_pass K ρ σ i o.0 (λ k h. sym (keep m (closed_in K i) (phrases m ρ i) r k o.1 h) ∙ a k (closed-kept k (closed_in K i) r h)) in
      let y = one_pass (closed_in K i) (phrases m ρ i) σ r o.1 a in
      (rw x.1 (cc (x.0, y.0)), ap (λ (τ : ℕ → A). (reading m τ r).phrases) x.1 ∙ y.1)
  one_pass K ρ σ (phrase j i r) o a =
      let own = one_pass K ρ ρ i o.2 (λ k h. rw (flat-phrases m ρ i o.1)) in
      let env : learn j (reading m ρ i).total (reading m ρ i).phrases ≡ learn j (interpret m ρ i) ρ = rw (own.0, own.1, flat-phrases m ρ i o.1) in
      let y = one_pass (also j K) (learn j (interpret m ρ i) ρ) σ r o.3 a in
      let same : interpret m ρ i ≡ interpret m σ i = agree m K ρ σ i o.2 (λ l h.
      let h' : K l ≡ true = subst (λ (L : ℕ → Bool). L l ≡ true) (flat-closes K i o.1) h in
      sym (keep m K ρ (phrase j i r) l o h') ∙ a l (closed-kept l (also j K) r (closed-more l j K h'))) in
      (rw env (cc (own.0, same, y.0)), ap (λ (τ : ℕ → A). (reading m τ r).phrases) env ∙ y.1)
  one_pass K ρ σ (call j r) o a =
      let x = one_pass K ρ σ r o.1 a in
      let mine : ρ j ≡ σ j = sym (keep m K ρ r j o.1 o.0) ∙ a j (closed-kept j K r o.0) in
      (cc (mine, x.0), x.1)

  pub one_pass_voice : (v : List (Outcome Meaning)) → Sound v → (reading m (λ k. m.nothing) (body_of v)).total ≡ of_voice m v
  one_pass_voice v s = (one_pass none_closed (λ k. m.nothing) (phrases_of m v) (body_of v) s.ordered (λ k h. refl)).0
