-- The meaning of a pair by the kind of its first byte.
-- starts_value, joined-meaning   first bytes in which a value begins, but for P-W, and the rows that rule
--                them
-- pw_meaning      P-W's first bytes
-- other-meaning   every first byte that is none of the others
use Prim.Native.Nat.{ℕ, ◌+◌, ◌*◌, ◌/◌, ◌%◌, ◌<◌}
use mathlib.Core.Path.{◌≡◌}
use mathlib.Core.Bool.{Bool, true, false, not, ◌&&◌, ◌||◌}
use native.Mathlib.Omega.{arith}
use lib.Dec.{eqb}
use borrow.Author.Tests.{ne_eqb, not-true}
use Rattle.logic.specs.Truth.{both_left, both_right}
use Rattle.refusals.specs.Numbers.Outcome.{accepted}
use Rattle.meaning.specs.declared.Meaning.TheVariants.{Pw}
use Rattle.logic.specs.Every.{every_at, true_of, implied, among}
use Rattle.command.specs.Others.{single_rows, row_found, joined_outcome}
use Rattle.command.proofs.Firsts.{singles, pulse_as, single-missed}
use Rattle.pair.specs.Pairs.{meaning_of}

abbrev pub starts_value : ℕ → Bool
starts_value a = eqb (a % 64) 0x1E || eqb (a % 64) 0x3E || eqb (a % 16) 0x0A || eqb (a % 4) 3

-- no note, not 01, no P-W and none of the single bytes
abbrev otherwise : ℕ → Bool
otherwise a = not (eqb (a % 4) 0) && not (eqb a 1) && not (eqb (a % 16) 2) && not (among singles a)

pub joined-meaning : (a b : ℕ) → a < 256 → starts_value a ≡ true → meaning_of a b ≡ joined_outcome a b
joined-meaning a b h e =
    let all = true_of (otherwise a) (implied (starts_value a) (otherwise a) (every_at (λ k. not (starts_value k) || otherwise k) 256 tt a h) e) in
    let three = both_left (not (eqb (a % 4) 0) && not (eqb a 1) && not (eqb (a % 16) 2)) (not (among singles a)) all in
    let two = both_left (not (eqb (a % 4) 0) && not (eqb a 1)) (not (eqb (a % 16) 2)) three in
    let note = not-true (eqb (a % 4) 0) (both_left (not (eqb (a % 4) 0)) (not (eqb a 1)) two) in
    let one = not-true (eqb a 1) (both_right (not (eqb (a % 4) 0)) (not (eqb a 1)) two) in
    let pw = not-true (eqb (a % 16) 2) (both_right (not (eqb (a % 4) 0) && not (eqb a 1)) (not (eqb (a % 16) 2)) three) in
    let none = not-true (among singles a) (both_right (not (eqb (a % 4) 0) && not (eqb a 1) && not (eqb (a % 16) 2)) (not (among singles a)) all) in
    rw (note, one, pulse_as a b (row_found single_rows a b (joined_outcome a b)) h, pw) (single-missed a b (joined_outcome a b) h none)

pub pw_meaning : (a b : ℕ) → a < 256 → a % 16 ≡ 2 → meaning_of a b ≡ accepted (Pw (a / 16 * 256 + b))
pw_meaning a b h e =
    rw (ne_eqb (a % 4) 0 (λ z. omega arith), ne_eqb a 1 (λ z. omega arith), pulse_as a b (row_found single_rows a b (joined_outcome a b)) h, e)

pub other-meaning : (a b : ℕ) → a < 256 → (a % 4 ≡ 0 → ⊥) → (a ≡ 1 → ⊥) → (a % 16 ≡ 2 → ⊥) → among singles a ≡ false → meaning_of a b ≡ joined_outcome a b
other-meaning a b h note one pw none =
    rw (ne_eqb (a % 4) 0 note, ne_eqb a 1 one, pulse_as a b (row_found single_rows a b (joined_outcome a b)) h, ne_eqb (a % 16) 2 pw)
    (single-missed a b (joined_outcome a b) h none)
