-- In a voice in order each DEF's number stands for what is made of that DEF's body, whatever it is;
-- for walks that meet the DEFs one by one.
-- Meant                so for each DEF in a body, where calls k is what number k stands for
-- flat-meant           a body without a DEF has none to speak of
-- meant, voice-meant   so for a body in order, and for a voice
use Prim.Native.Nat.{ℕ}
use mathlib.Core.Path.{◌≡◌, refl, sym, ◌∙◌}
use mathlib.Core.Bool.{Bool}
use mathlib.Core.List.{List}
use Rattle.meaning.specs.declared.Meaning.{Meaning}
use Rattle.refusals.specs.Numbers.{Outcome}
use Rattle.bodies.specs.Bodies.{Body, done, event, repeat, phrase, call, body_of}
use Rattle.bodies.specs.Playing.{Interpretation, interpret, learn, phrases, phrases_of}
use Rattle.bodies.specs.Order.{also, closed_in, Flat, Ordered, none_closed, Sound}
use Rattle.bodies.proofs.Phrases.{closed-kept, Agree, keep, here}

module _ {A : Type 0} (m : Interpretation A) where
  unfoldable pub Meant : (ℕ → A) → Body → Type 0
  Meant calls (done c) = Unit
  Meant calls (event e r) = Meant calls r
  Meant calls (repeat n i r) = Meant calls i × Meant calls r
  Meant calls (phrase k i r) = (calls k ≡ interpret m calls i) × Meant calls i × Meant calls r
  Meant calls (call k r) = Meant calls r

  flat-meant : (calls : ℕ → A) (b : Body) → Flat b → Meant calls b
  unfolding Meant Flat
  flat-meant calls (done c) f = tt
  flat-meant calls (event e r) f = flat-meant calls r f
  flat-meant calls (repeat n i r) f = (flat-meant calls i f.0, flat-meant calls r f.1)
  flat-meant calls (phrase k i r) f = absurd f
  flat-meant calls (call k r) f = flat-meant calls r f

  meant : (σ : ℕ → A) (K : ℕ → Bool) (ρ : ℕ → A) (b : Body) → Ordered K b → Agree m (closed_in K b) (phrases m ρ b) σ → Meant σ b
  unfolding Meant phrases Ordered closed_in
  meant σ K ρ (done c) o a = tt
  meant σ K ρ (event e r) o a = meant σ K ρ r o a
  meant σ K ρ (repeat n i r) o a = (
    meant σ K ρ i o.0 (λ j h. sym (keep m (closed_in K i) (phrases m ρ i) r j o.1 h) ∙ a j (closed-kept j (closed_in K i) r h)),
    meant σ (closed_in K i) (phrases m ρ i) r o.1 a,
  )
  meant σ K ρ (phrase j i r) o a = (here m σ K ρ j i r o a, flat-meant σ i o.1, meant σ (also j K) (learn j (interpret m ρ i) ρ) r o.3 a)
  meant σ K ρ (call j r) o a = meant σ K ρ r o.1 a

  pub voice-meant : (v : List (Outcome Meaning)) → Sound v → Meant (phrases_of m v) (body_of v)
  voice-meant v s = meant (phrases_of m v) none_closed (λ k. m.nothing) (body_of v) s.ordered (λ k h. refl)
