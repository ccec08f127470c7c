-- What is written reads back, for values that begin in the first byte.
-- pw_written, ms_written, por_written   P-W, MS# and POR
-- jif-back, dtn-back   JIF and DTN, of either sign
use Prim.Native.Nat.{ℕ, ◌+◌, ◌*◌, ◌-◌, ◌/◌, ◌%◌, ◌≤◌}
use mathlib.Core.Path.{◌≡◌, refl, ◌∙◌, ap}
use native.Mathlib.Omega.{arith}
use lib.Dec.{leb}
use lib.IntN.{ℤ, pos, negsuc}
use borrow.Author.Tests.{eq-eqb, ne_eqb, lt-ltb, le-ltb, lt-leb, leb-true}
use Rattle.logic.specs.Cases.{cases}
use Rattle.refusals.specs.Numbers.Outcome.{accepted}
use Rattle.meaning.specs.declared.Meaning.TheVariants.{Pw, Ms, Jif, Dtn, Por}
use Rattle.commandsigns.specs.Signs.{detuning_of, jif_outcome}
use Rattle.command.proofs.Firsts.{joined_as}
use Rattle.spelling.specs.Signs.{jif, dtn}
use Rattle.pair.specs.Pairs.{meaning_of}
use Rattle.pairlaws.proofs.ValueKinds.{ReadsBack, picked-back, joined-means}
use Rattle.pairlaws.proofs.FirstBytes.{joined-meaning, pw_meaning}

pub pw_written : (v : ℕ) → v ≤ 4095 → meaning_of (0x02 + 16 * (v / 256)) (v % 256) ≡ accepted (Pw v)
pw_written v h =
    let a = 0x02 + 16 * (v / 256) in
    pw_meaning a (v % 256) (omega arith) (omega arith) ∙ ap (λ (k : ℕ). accepted (Pw k)) (omega arith)

pub ms_written : (v : ℕ) → v ≤ 1023 → meaning_of (0x1E + 64 * (v / 256)) (v % 256) ≡ accepted (Ms v)
ms_written v h =
    let a = 0x1E + 64 * (v / 256) in
    let is = eq-eqb (a % 64) 0x1E (omega arith) in
    joined-meaning a (v % 256) (omega arith) (rw (is)) ∙ joined_as a (v % 256) (omega arith)
    ∙ rw (is) (ap (λ (k : ℕ). accepted (Ms k)) (omega arith))

pub por_written : (v : ℕ) → v ≤ 16383 → meaning_of (0x03 + 4 * (v / 256)) (v % 256) ≡ accepted (Por v)
por_written v h =
    let a = 0x03 + 4 * (v / 256) in
    let is = eq-eqb (a % 4) 3 (omega arith) in
    let ms = ne_eqb (a % 64) 0x1E (λ e. omega arith) in
    let jif = ne_eqb (a % 64) 0x3E (λ e. omega arith) in
    let dtn = ne_eqb (a % 16) 0x0A (λ e. omega arith) in
    joined-meaning a (v % 256) (omega arith) (rw (ms, jif, dtn, is)) ∙ joined_as a (v % 256) (omega arith)
    ∙ rw (ms, jif, dtn, is) (ap (λ (k : ℕ). accepted (Por k)) (omega arith))

-- JIF's ten bits, whatever they mean
jif_raw : (v : ℕ) → v ≤ 1023 → meaning_of (0x3E + 64 * (v / 256)) (v % 256) ≡ jif_outcome v
jif_raw v h =
    let a = 0x3E + 64 * (v / 256) in
    let is = eq-eqb (a % 64) 0x3E (omega arith) in
    let ms = ne_eqb (a % 64) 0x1E (λ e. omega arith) in
    let value : a / 64 * 256 + v % 256 ≡ v = omega arith in
    joined-meaning a (v % 256) (omega arith) (rw (ms, is)) ∙ joined_as a (v % 256) (omega arith) ∙ rw (ms, is, value)

pub jif-back : (z : ℤ) → ReadsBack (Jif z) (jif z)
jif-back (pos n) =
    cases (leb n 757)
    (λ e. let low = leb-true n 757 e in
    rw e
    (picked-back (Jif (pos n)) (leb n 1023) (0x3E + 64 * (n / 256)) (n % 256)
    (λ q. joined-means (Jif (pos n)) n 1023 0x3E 64 (omega arith) tt
    (jif_raw n (omega arith) ∙ rw (e, le-ltb n 0 (omega arith)) (ap (λ (k : ℕ). accepted (Jif (pos k))) (omega arith))))))
    (λ e. rw e (refl, refl))
jif-back (negsuc n) =
    cases (leb (n + 1) 200)
    (λ e. let low = leb-true (n + 1) 200 e in
    let v = 1024 - (n + 1) in
    rw e
    (picked-back (Jif (negsuc n)) (leb v 1023) (0x3E + 64 * (v / 256)) (v % 256)
    (λ q. joined-means (Jif (negsuc n)) v 1023 0x3E 64 (omega arith) tt
    (jif_raw v (omega arith) ∙ rw (lt-leb v 757 (omega arith), lt-leb v 823 (omega arith), lt-ltb v 1024 (omega arith)) (ap (λ (k : ℕ). accepted (Jif (negsuc k))) (omega arith))))))
    (λ e. rw e (refl, refl))

-- DTN's eleven bits below the first byte's sign
dtn_raw : (bit v : ℕ) → bit ≤ 1 → v ≤ 2047
    → meaning_of (0x0A + 16 * bit + 32 * (v / 256)) (v % 256) ≡ accepted (Dtn (detuning_of v bit))
dtn_raw bit v one h =
    let a = 0x0A + 16 * bit + 32 * (v / 256) in
    let is = eq-eqb (a % 16) 0x0A (omega arith) in
    let ms = ne_eqb (a % 64) 0x1E (λ e. omega arith) in
    let jif = ne_eqb (a % 64) 0x3E (λ e. omega arith) in
    let sign : a / 16 % 2 ≡ bit = omega arith in
    let value : a / 32 * 256 + v % 256 ≡ v = omega arith in
    joined-meaning a (v % 256) (omega arith) (rw (ms, jif, is)) ∙ joined_as a (v % 256) (omega arith)
    ∙ rw (ms, jif, is, sign, value)

pub dtn-back : (z : ℤ) → ReadsBack (Dtn z) (dtn z)
dtn-back (pos n) =
    cases (leb n 2047)
    (λ e. let low = leb-true n 2047 e in
    rw e
    (joined-means (Dtn (pos n)) n 2047 0x0A 32 low tt
    (dtn_raw 0 n (omega arith) low ∙ rw (le-ltb n 0 (omega arith)) (ap (λ (k : ℕ). accepted (Dtn (pos k))) (omega arith)))))
    (λ e. rw e (refl, refl))
dtn-back (negsuc n) =
    cases (leb (n + 1) 2048)
    (λ e. let low = leb-true (n + 1) 2048 e in
    let v = 2048 - (n + 1) in
    rw e
    (picked-back (Dtn (negsuc n)) (leb v 2047) (0x1A + 32 * (v / 256)) (v % 256)
    (λ q. joined-means (Dtn (negsuc n)) v 2047 0x1A 32 (omega arith) tt
    (dtn_raw 1 v (omega arith) (omega arith) ∙ rw (lt-ltb v 2048 (omega arith)) (ap (λ (k : ℕ). accepted (Dtn (negsuc k))) (omega arith))))))
    (λ e. rw e (refl, refl))
