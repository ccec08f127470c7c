-- The code's tests of a pair's two bytes tell the kinds of source 004's rows, each shown by a test over all
-- 256 bytes.
-- second_as            after 01, by the second byte's low nibble
-- ranged_as            after a first byte whose value has a range, by the second byte
-- por_event, low-bad   by the first byte alone: low bits 11; low bits 00 and 01
-- rest-event           low bits 10: every first byte but those that are apart is an event's
use Prim.Native.Nat.{ℕ, ◌%◌, ◌<◌}
use mathlib.Core.Path.{◌≡◌, refl, sym, ◌∙◌}
use mathlib.Core.Bool.{Bool, true, false, not, ◌||◌, cond}
use mathlib.Core.List.{List, [], ◌∷◌}
use native.Mathlib.Omega.{arith}
use native.Mathlib.Decide.{ℕ_discrete}
use lib.Dec.{T, eqb}
use borrow.Author.Tests.{eqb-true, ne_eqb, not-true}
use Rattle.logic.specs.Cases.{cases}
use Rattle.logic.specs.Every.{every, every_at, true_of, among}
use Rattle.commandtable.specs.Codes.{second_outcome}
use Rattle.command.specs.Others.{single_rows, row_found, joined_outcome, other_outcome}
use Rattle.command.proofs.Firsts.{singles, pulse_as, single-missed, joined_as}
use Rattle.kind.specs.declared.Kind.TheVariants.{Event, Bad}
use Rattle.kind.specs.Kinds.{kind_of}
use Rattle.kind.specs.Bytes.{event_if, second_kind}
use Rattle.kind.specs.Plain.{apart}
use Rattle.kind.specs.Laws.{same_kind, same_kind_lem}

pub second_as : (b : ℕ) → b < 256 → second_kind b ≡ kind_of (second_outcome b)
second_as b h =
    same_kind_lem (second_kind b) (kind_of (second_outcome b)) (every_at (λ k. same_kind (second_kind k) (kind_of (second_outcome k))) 256 tt b h)

pub ranged_as : (a : ℕ) (within : ℕ → Bool) → T (every (λ k. same_kind (event_if (within k)) (kind_of (other_outcome a k))) 256)
    → (b : ℕ) → b < 256 → event_if (within b) ≡ kind_of (other_outcome a b)
ranged_as a within t b h =
    same_kind_lem (event_if (within b)) (kind_of (other_outcome a b)) (every_at (λ k. same_kind (event_if (within k)) (kind_of (other_outcome a k))) 256 t b h)

-- low nibbles other than 2, 6 and E: DTN, POR and what is unassigned
joined-kind : (a b : ℕ) → a < 256 → (a % 16 ≡ 2 → ⊥) → (a % 16 ≡ 6 → ⊥) → (a % 16 ≡ 14 → ⊥)
    → kind_of (other_outcome a b) ≡ cond (eqb (a % 16) 0x0A) Event (cond (eqb (a % 4) 3) Event (Bad 27))
joined-kind a b h p q r =
    let test = true_of (eqb (a % 16) 6 || eqb (a % 16) 14 || not (among singles a)) (every_at (λ k. eqb (k % 16) 6 || eqb (k % 16) 14 || not (among singles k)) 256 tt a h) in
    let none = not-true (among singles a) (rw (ne_eqb (a % 16) 6 q, ne_eqb (a % 16) 14 r) at test) in
    let other : other_outcome a b ≡ joined_outcome a b = rw (pulse_as a b (row_found single_rows a b (joined_outcome a b)) h, ne_eqb (a % 16) 2 p) (single-missed a b (joined_outcome a b) h none) in
    rw (other, joined_as a b h, ne_eqb (a % 64) 0x1E (λ e. r (omega arith)), ne_eqb (a % 64) 0x3E (λ e. r (omega arith)))
    (cases (eqb (a % 16) 0x0A) (λ s. rw s) (λ s. cases (eqb (a % 4) 3) (λ t. rw (s, t)) (λ t. rw (s, t))))

pub por_event : (a b : ℕ) → a < 256 → a % 4 ≡ 3 → kind_of (other_outcome a b) ≡ Event
por_event a b h e =
    joined-kind a b h (λ p. omega arith) (λ p. omega arith) (λ p. omega arith) ∙ rw (ne_eqb (a % 16) 0x0A (λ p. omega arith), e)

pub low-bad : (a b : ℕ) → a < 256 → a % 4 < 2 → kind_of (other_outcome a b) ≡ Bad 27
low-bad a b h e =
    joined-kind a b h (λ p. omega arith) (λ p. omega arith) (λ p. omega arith)
    ∙ rw (ne_eqb (a % 16) 0x0A (λ p. omega arith), ne_eqb (a % 4) 3 (λ p. omega arith))

-- the others of low nibbles 6 and E
abbrev plain : List ℕ
plain = 0x06 ∷ 0x16 ∷ 0x26 ∷ 0x46 ∷ 0x56 ∷ 0x66 ∷ 0x86 ∷ 0x96 ∷ 0xB6 ∷ 0xE6 ∷ 0xF6 ∷ 0x0E ∷ 0x4E ∷ 0x1E ∷ 0x5E ∷ 0x9E ∷ 0xDE ∷ 0x3E ∷ 0x7E ∷ []

abbrev Events : List ℕ → ℕ → Type 0
Events [] b = Unit
Events (k ∷ ks) b = (kind_of (other_outcome k b) ≡ Event) × Events ks b

events_at : (ks : List ℕ) (a b : ℕ) → Events ks b → T (among ks a) → kind_of (other_outcome a b) ≡ Event
events_at [] a b es t = absurd t
events_at (k ∷ ks) a b es t =
    cases (eqb a k) (λ e. rw (eqb-true a k e) es.0) (λ e. events_at ks a b es.1 (rw e at t))

plain-events : (b : ℕ) → b < 256 → Events plain b
plain-events b h =
    (refl, (refl, (refl, (refl, (refl, (refl, (refl, (refl, (refl, (refl, (refl, (refl, (refl, (refl, (refl, (refl, (refl, (sym (ranged_as 0x3E (λ k. true) tt b h), (sym (ranged_as 0x7E (λ k. true) tt b h), tt)))))))))))))))))))

abbrev sorted : ℕ → Bool
sorted a = not (eqb (a % 4) 2) || eqb (a % 16) 2 || eqb (a % 16) 0x0A || among apart a || among plain a

pub rest-event : (a b : ℕ) → a < 256 → b < 256 → a % 4 ≡ 2 → among apart a ≡ false → kind_of (other_outcome a b) ≡ Event
rest-event a b ha hb e none =
    elim (ℕ_discrete (a % 16) 2) [
      | yes p ↦ rw (pulse_as a b (row_found single_rows a b (joined_outcome a b)) ha, p)
      | no p ↦
          elim (ℕ_discrete (a % 16) 0x0A) [
            | yes q ↦ joined-kind a b ha p (λ r. omega arith) (λ r. omega arith) ∙ rw q
            | no q ↦
                let t : T (among plain a) = rw (e, ne_eqb (a % 16) 2 p, ne_eqb (a % 16) 0x0A q, none) at (every_at sorted 256 tt a ha) in
                events_at plain a b (plain-events b hb) t
          ]
    ]
