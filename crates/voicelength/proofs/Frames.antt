-- The bodies that are open at a pair, and what is made of a voice from there on.
-- Opened                       a body that waits for the one inside it: what opened that one, with its
--                              number, and what came before it
-- closed, learned              what the inner body makes of it, and of the phrases, when it is closed
-- rest, whole                  what is made of a voice from the innermost body on
-- whole-event, whole-call, whole-hed, whole-def, whole_close   each pair leaves the whole as it is
-- heds, Ok, EachOk             how many are open by a HED; numbers that acceptance lets pass
-- rest-pairs, rest-depth       the whole has at least the pairs of each part, and is at least as deep
use Prim.Native.Nat.{ℕ, zero, suc, ◌+◌, ◌*◌, ◌<◌, ◌≤◌}
use mathlib.Core.Path.{◌≡◌, sym, ap}
use mathlib.Core.List.{List, [], ◌∷◌}
use native.Mathlib.Nat.{suc-mul, not-suc-le-zero}
use native.Mathlib.Omega.{arith}
use Rattle.bodies.specs.Bodies.{Event, Closer, Body, done, event, repeat, phrase, call, inner, outer}
use Rattle.bodies.specs.Playing.{learn}
use Rattle.bodies.specs.OnePass.{reading}
use Rattle.voicelength.proofs.Weighing.{Weighed, none, one, after, repeated, standing, called}
use Rattle.voicelength.proofs.Weighing.{weighing, after_assoc, none_after, after_none, Good}

pub data Opened : Type 0 where
  hed : ℕ → Weighed → Opened
  def : ℕ → Weighed → Opened

abbrev pub closed : Opened → Weighed → Weighed
closed (hed n a) x = after a (repeated n x)
closed (def k a) x = after a (standing x)

abbrev pub learned : Opened → Weighed → (ℕ → Weighed) → ℕ → Weighed
learned (hed n a) x t = t
learned (def k a) x t = learn k x t

unfoldable pub rest : List Opened → Weighed → (ℕ → Weighed) → List Body → Weighed
rest [] x t bs = x
rest (f ∷ fs) x t bs =
    rest fs (after (closed f x) (reading weighing (learned f x t) (inner bs)).total)
    (reading weighing (learned f x t) (inner bs)).phrases (outer bs)

abbrev pub whole : Weighed → List Opened → (ℕ → Weighed) → List Body → Weighed
whole now fs t bs = rest fs (after now (reading weighing t (inner bs)).total) (reading weighing t (inner bs)).phrases (outer bs)

module _ (now : Weighed) (fs : List Opened) (t : ℕ → Weighed) (bs : List Body) where
  pub whole-event : (e : Event)
      → whole now fs t (event e (inner bs) ∷ outer bs) ≡ whole (after now (one e.meaning)) fs t bs
  unfolding inner outer reading
  whole-event e =
      let r = reading weighing t (inner bs) in
      ap (λ (x : Weighed). rest fs x r.phrases (outer bs)) (sym (after_assoc now (one e.meaning) r.total))

  pub whole-call : (k : ℕ) → whole now fs t (call k (inner bs) ∷ outer bs) ≡ whole (after now (called (t k))) fs t bs
  unfolding inner outer reading
  whole-call k =
      let r = reading weighing t (inner bs) in
      ap (λ (x : Weighed). rest fs x r.phrases (outer bs)) (sym (after_assoc now (called (t k)) r.total))

  pub whole-hed : (n : ℕ)
      → whole now fs t (repeat n (inner bs) (inner (outer bs)) ∷ outer (outer bs)) ≡ whole none (hed n now ∷ fs) t bs
  unfolding inner outer reading rest
  whole-hed n =
      let i = reading weighing t (inner bs) in
      let r = reading weighing i.phrases (inner (outer bs)) in
      rw (none_after i.total)
      (ap (λ (x : Weighed). rest fs x r.phrases (outer (outer bs)))
      (sym (after_assoc now (repeated n i.total) r.total)))

  pub whole-def : (k : ℕ)
      → whole now fs t (phrase k (inner bs) (inner (outer bs)) ∷ outer (outer bs)) ≡ whole none (def k now ∷ fs) t bs
  unfolding inner outer reading rest
  whole-def k =
      let i = reading weighing t (inner bs) in
      let r = reading weighing (learn k i.total i.phrases) (inner (outer bs)) in
      rw (none_after i.total)
      (ap (λ (x : Weighed). rest fs x r.phrases (outer (outer bs)))
      (sym (after_assoc now (standing i.total) r.total)))

  pub whole_close : (f : Opened) (c : Closer)
      → whole now (f ∷ fs) t (done c ∷ bs) ≡ whole (closed f now) fs (learned f now t) bs
  unfolding inner outer reading rest
  whole_close f c = rw (after_none now)

abbrev pub heds : List Opened → ℕ
heds [] = 0
heds (hed n a ∷ fs) = 1 + heds fs
heds (def k a ∷ fs) = heds fs

abbrev pub Ok : Opened → Type 0
Ok (hed n a) = (0 < n) × (n < 256) × Good a
Ok (def k a) = (k < 24) × Good a

abbrev pub EachOk : List Opened → Type 0
EachOk [] = Unit
EachOk (f ∷ fs) = Ok f × EachOk fs

some-passes : (n x : ℕ) → 0 < n → x ≤ n * (x + 1)
some-passes zero x h = absurd (not-suc-le-zero h)
some-passes (suc n) x h = omega (arith, suc-mul n (x + 1))

closed-pairs : (f : Opened) (x : Weighed) → Ok f → x.pairs ≤ (closed f x).pairs
unfolding after
closed-pairs (hed n a) x h = omega (arith, some-passes n x.pairs h.0)
closed-pairs (def k a) x h = omega arith

pub rest-pairs : (fs : List Opened) (x : Weighed) (t : ℕ → Weighed) (bs : List Body) → EachOk fs
    → x.pairs ≤ (rest fs x t bs).pairs
unfolding rest
rest-pairs [] x t bs h = omega arith
rest-pairs (f ∷ fs) x t bs h =
    let r = reading weighing (learned f x t) (inner bs) in
    let more : (closed f x).pairs ≤ (after (closed f x) r.total).pairs = unfold after in omega arith in
    omega (arith, closed-pairs f x h.0, more, rest-pairs fs (after (closed f x) r.total) r.phrases (outer bs) h.1)

pub rest-depth : (fs : List Opened) (x : Weighed) (t : ℕ → Weighed) (bs : List Body)
    → x.depth + heds fs ≤ (rest fs x t bs).depth
unfolding rest
rest-depth [] x t bs = omega arith
rest-depth (hed n a ∷ fs) x t bs =
    let r = reading weighing t (inner bs) in
    let more : 1 + x.depth ≤ (after (after a (repeated n x)) r.total).depth = unfold after in omega arith in
    omega (arith, more, rest-depth fs (after (after a (repeated n x)) r.total) r.phrases (outer bs))
rest-depth (def k a ∷ fs) x t bs =
    let r = reading weighing (learn k x t) (inner bs) in
    let more : x.depth ≤ (after (after a (standing x)) r.total).depth = unfold after in omega arith in
    omega (arith, more, rest-depth fs (after (after a (standing x)) r.total) r.phrases (outer bs))
