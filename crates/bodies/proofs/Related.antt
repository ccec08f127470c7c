-- Two interpretations whose parts are related are related on every body and every voice.
-- Relation        what is asked of the parts
-- related, related-phrases, related-voice
-- length-copies   n copies have n times as many events
-- events-walked   a voice has no more events than pairs walked
use Prim.Native.Nat.{ℕ, zero, suc, ◌+◌, ◌*◌, ◌≤◌}
use mathlib.Core.Path.{◌≡◌, sym, ◌∙◌}
use mathlib.Core.List.{List}
use native.Mathlib.Nat.{le_refl, suc-mul, zero-mul}
use native.Mathlib.Omega.{arith}
use lib.Dec.{eqb}
use lib.ListN.{length, length-append}
use Rattle.logic.specs.Cases.{cases}
use Rattle.meaning.specs.declared.Meaning.{Meaning}
use Rattle.refusals.specs.Numbers.{Outcome}
use Rattle.bodies.specs.Bodies.{Event, Body, done, event, repeat, phrase, call, body_of}
use Rattle.bodies.specs.Playing.{Interpretation, interpret, learn, phrases, phrases_of, of_voice, copies, playing, walking, played, events_of, walked_of}

pub record Relation {A B : Type 0} (m : Interpretation A) (n : Interpretation B) (R : A → B → Type 0) : Type 0 where
  pub nothing : R m.nothing n.nothing
  pub plain : (e : Event) (a : A) (b : B) → R a b → R (m.plain e a) (n.plain e b)
  pub repeated : (t : ℕ) (a c : A) (b d : B) → R a b → R c d → R (m.repeated t a c) (n.repeated t b d)
  pub defined : (a c : A) (b d : B) → R a b → R c d → R (m.defined a c) (n.defined b d)
  pub called : (a c : A) (b d : B) → R a b → R c d → R (m.called a c) (n.called b d)

module _ {A B : Type 0} (m : Interpretation A) (n : Interpretation B) (R : A → B → Type 0) (r : Relation m n R) where
  pub related : (ρ : ℕ → A) (σ : ℕ → B) → ((k : ℕ) → R (ρ k) (σ k)) → (b : Body) → R (interpret m ρ b) (interpret n σ b)
  unfolding interpret
  related ρ σ h (done c) = r.nothing
  related ρ σ h (event e x) = r.plain e _ _ (related ρ σ h x)
  related ρ σ h (repeat t i x) = r.repeated t _ _ _ _ (related ρ σ h i) (related ρ σ h x)
  related ρ σ h (phrase k i x) = r.defined _ _ _ _ (related ρ σ h i) (related ρ σ h x)
  related ρ σ h (call k x) = r.called _ _ _ _ (h k) (related ρ σ h x)

  learned : (k j : ℕ) (a : A) (b : B) (ρ : ℕ → A) (σ : ℕ → B) → R a b → R (ρ j) (σ j) → R (learn k a ρ j) (learn k b σ j)
  learned k j a b ρ σ x y = cases (eqb k j) (λ e. rw e x) (λ e. rw e y)

  pub related-phrases : (ρ : ℕ → A) (σ : ℕ → B) → ((k : ℕ) → R (ρ k) (σ k)) → (b : Body) (k : ℕ) → R (phrases m ρ b k) (phrases n σ b k)
  unfolding phrases
  related-phrases ρ σ h (done c) k = h k
  related-phrases ρ σ h (event e x) k = related-phrases ρ σ h x k
  related-phrases ρ σ h (repeat t i x) k = related-phrases (phrases m ρ i) (phrases n σ i) (λ j. related-phrases ρ σ h i j) x k
  related-phrases ρ σ h (phrase l i x) k =
      related-phrases (learn l (interpret m ρ i) ρ) (learn l (interpret n σ i) σ) (λ j. learned l j (interpret m ρ i) (interpret n σ i) ρ σ (related ρ σ h i) (h j)) x k
  related-phrases ρ σ h (call l x) k = related-phrases ρ σ h x k

  pub related-voice : (v : List (Outcome Meaning)) → R (of_voice m v) (of_voice n v)
  related-voice v =
      related (phrases_of m v) (phrases_of n v) (λ k. related-phrases (λ j. m.nothing) (λ j. n.nothing) (λ j. r.nothing) (body_of v) k) (body_of v)

pub length-copies : (n : ℕ) (es : List Event) → length (copies n es) ≡ n * length es
unfolding copies
length-copies zero es = sym (zero-mul (length es))
length-copies (suc n) es = length-append es (copies n es) ∙ rw (length-copies n es) (omega (arith, suc-mul n (length es)))

-- events and pairs walked: of every body no more of the first
pub few : (t x w : ℕ) → x ≤ w → t * x ≤ t * (w + 1)
few zero x w h = rw (zero-mul x, zero-mul (w + 1)) (le_refl 0)
few (suc t) x w h = omega (arith, suc-mul t x, suc-mul t (w + 1), few t x w h)

pub fewer : Relation playing walking (λ es w. length es ≤ w)
fewer =
    record {
      nothing = le_refl 0;
      plain = λ e es w h. omega arith;
      repeated = λ t a c b d h g. omega (arith, length-append (copies t a) c, length-copies t a, few t (length a) b h);
      -- in either order, so that the order of events is not held by how long they are
      defined = λ a c b d h g. omega (arith, length-append a c, length-append c a);
      called = λ a c b d h g. omega (arith, length-append a c, length-append c a);
    }

pub events-walked : (v : List (Outcome Meaning)) → events_of v ≤ walked_of v
unfolding events_of walked_of played
events-walked v = related-voice playing walking (λ es w. length es ≤ w) fewer v
