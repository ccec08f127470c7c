-- What is plain is an event.
-- not_among     a number that is none of some, as the last arm of a match knows it
-- plain-event   so for every two bytes
use Prim.Native.Nat.{ℕ, ◌%◌, ◌<◌}
use mathlib.Core.Path.{◌≡◌, refl, sym, ◌∙◌}
use mathlib.Core.Bool.{true, false, not, ◌&&◌, ◌||◌, cond}
use mathlib.Core.List.{List, [], ◌∷◌}
use lib.Dec.{eqb, ltb}
use borrow.Author.Tests.{eqb-true, ne_eqb, ltb-true, not-true}
use Rattle.logic.specs.Cases.{cases}
use Rattle.logic.specs.Truth.{both}
use Rattle.logic.specs.LastArm.{Others, others-known}
use Rattle.logic.specs.Every.{every_at, implied, among}
use Rattle.commandtable.specs.Codes.{second_outcome}
use Rattle.command.specs.Others.{other_outcome}
use Rattle.pair.specs.Pairs.{meaning_of}
use Rattle.kind.specs.declared.Kind.TheVariants.{Event}
use Rattle.kind.specs.Kinds.{kind_of}
use Rattle.kind.specs.Bytes.{second_kind}
use Rattle.kind.specs.Laws.{same_kind, same_kind_lem}
use Rattle.kind.specs.Plain.{plain_second, apart, plain_first, is_plain}
use Rattle.kind.proofs.Rows.{second_as, por_event, rest-event}

pub not_among : (T : Type 0) (xs : List ℕ) (k : ℕ) → Others (λ x. x) T xs k → among xs k ≡ false
not_among T [] k o = refl
not_among T (x ∷ xs) k o = rw (ne_eqb k x (others-known (λ y. y) (T × (k ≡ x → ⊥)) xs k o).1) (not_among (T × (k ≡ x → ⊥)) xs k o)

second-event : (b : ℕ) → b < 256 → plain_second (b % 16) ≡ true → kind_of (second_outcome b) ≡ Event
second-event b h e =
    sym (second_as b h)
    ∙ same_kind_lem (second_kind b) Event
    (implied (plain_second (b % 16)) (same_kind (second_kind b) Event) (every_at (λ k. not (plain_second (k % 16)) || same_kind (second_kind k) Event) 256 tt b h) e)

module _ (a b : ℕ) (ha : a < 256) (hb : b < 256) where
  first-event : plain_first a ≡ true → kind_of (other_outcome a b) ≡ Event
  first-event e =
      cases (eqb (a % 4) 2) (λ p. rest-event a b ha hb (eqb-true (a % 4) 2 p) (not-true (among apart a) (rw p at e)))
      (λ p. por_event a b ha (eqb-true (a % 4) 3 (rw p at e)))

  bytes-event : cond (eqb (a % 4) 0) true (cond (eqb a 1) (plain_second (b % 16)) (plain_first a)) ≡ true → kind_of (meaning_of a b) ≡ Event
  bytes-event e =
      cases (eqb (a % 4) 0) (λ p. rw p)
      (λ p. cases (eqb a 1) (λ q. rw (p, q) (second-event b hb (rw (p, q) at e))) (λ q. rw (p, q) (first-event (rw (p, q) at e))))

pub plain-event : (a b : ℕ) → is_plain a b ≡ true → kind_of (meaning_of a b) ≡ Event
plain-event a b e =
    let tests = cond (eqb (a % 4) 0) true (cond (eqb a 1) (plain_second (b % 16)) (plain_first a)) in
    let two = both (ltb a 256 && ltb b 256) tests e in
    let bytes = both (ltb a 256) (ltb b 256) two.0 in
    bytes-event a b (ltb-true a 256 bytes.0) (ltb-true b 256 bytes.1) two.1
