-- What holds of some page of a range, by the ends of ranges. Assumes nothing.
-- Some, any_true, true_any   some page passes a test exactly when there is such a page
-- any-between                two ranges have a page in common
-- any_or, any_and            one of two tests passes; a test beside a fact
-- any-taken                  a page of a range, or for RSID a reserved one
-- Byte, byte-touched, touched-byte   the payload touches a page exactly when one of its bytes lies there
use Prim.Native.Nat.{ℕ, zero, suc, ◌+◌, ◌-◌, ◌*◌, ◌/◌, ◌<◌, ◌≤◌, max}
use mathlib.Core.Path.{◌≡◌, refl, ◌∙◌}
use mathlib.Core.Bool.{Bool, true, false, not, ◌&&◌, ◌||◌, false≢true, or-true}
use native.Mathlib.Omega.{arith}
use lib.Dec.{ltb, leb, eqb}
use borrow.Author.Tests.{ltb-true, leb-true, eqb-true, eqb-false, not-true, lt-ltb, le-leb, ne_eqb}
use Rattle.logic.specs.Cases.{cases}
use Rattle.logic.specs.Truth.{both_left, both_right}
use Rattle.sidheader.specs.declared.Payload.{Payload}
use Rattle.sidrefusals.specs.Pages.{any_page, between, touched, reserved_page}
use Rattle.sidrefusals.proofs.Tests.{and_same, and_true}

-- a page of the count from start on that passes t
pub record Some (start count : ℕ) (t : ℕ → Bool) : Type 0 where
  pub page : ℕ
  pub low : start ≤ page
  pub high : page < start + count
  pub passes : t page ≡ true

pub any_true : (start count : ℕ) (t : ℕ → Bool) → any_page start count t ≡ true → Some start count t
unfolding any_page
any_true start zero t e = absurd (false≢true e)
any_true start (suc count) t e =
    cases (t start)
    (λ p. record { page = start; low = omega arith; high = omega arith; passes = p })
    (λ p.
    let s = any_true (start + 1) count t (rw p at e) in
    record { page = s.page; low = omega (arith, s.low); high = omega (arith, s.high); passes = s.passes })

pub true_any : (start count : ℕ) (t : ℕ → Bool) (n : ℕ) → start ≤ n → n < start + count → t n ≡ true → any_page start count t ≡ true
unfolding any_page
true_any start zero t n l h p = absurd (omega arith)
true_any start (suc count) t n l h p =
    cases (eqb n start)
    (λ e. rw (← eqb-true n start e, p))
    (λ e. let apart = eqb-false n start e in rw (true_any (start + 1) count t n (omega arith) (omega arith) p) (or-true (t start)))

pub any-between : (start count first last : ℕ)
    → not (eqb count 0) && leb first last && leb start last && ltb first (start + count) ≡ any_page start count (between first last)
any-between start count first last = and_same _ _ there back
  where
    there : not (eqb count 0) && leb first last && leb start last && ltb first (start + count) ≡ true → any_page start count (between first last) ≡ true
    there e =
        let e₂ = both_left (not (eqb count 0) && leb first last && leb start last) (ltb first (start + count)) e in
        let e₁ = both_left (not (eqb count 0) && leb first last) (leb start last) e₂ in
        let some = eqb-false count 0 (not-true (eqb count 0) (both_left (not (eqb count 0)) (leb first last) e₁)) in
        let order = leb-true first last (both_right (not (eqb count 0)) (leb first last) e₁) in
        let reach = leb-true start last (both_right (not (eqb count 0) && leb first last) (leb start last) e₂) in
        let past = ltb-true first (start + count) (both_right (not (eqb count 0) && leb first last && leb start last) (ltb first (start + count)) e) in
        true_any start count (between first last) (max start first) (omega arith) (omega arith)
        (and_true (le-leb first (max start first) (omega arith)) (le-leb (max start first) last (omega arith)))

    back : any_page start count (between first last) ≡ true → not (eqb count 0) && leb first last && leb start last && ltb first (start + count) ≡ true
    back e =
        let s = any_true start count (between first last) e in
        let low = leb-true first s.page (both_left (leb first s.page) (leb s.page last) s.passes) in
        let high = leb-true s.page last (both_right (leb first s.page) (leb s.page last) s.passes) in
        let none : count ≡ 0 → ⊥ = omega (arith, s.low, s.high) in
        let some : not (eqb count 0) ≡ true = rw (ne_eqb count 0 none) in
        and_true (and_true (and_true some (le-leb first last (omega arith))) (le-leb start last (omega (arith, s.low))))
        (lt-ltb first (start + count) (omega (arith, s.high)))

exchange : (a b c d : Bool) → a || b || (c || d) ≡ a || c || (b || d)
exchange true b c d = refl
exchange false true true d = refl
exchange false true false d = refl
exchange false false c d = refl

pub any_or : (start count : ℕ) (t u : ℕ → Bool) → any_page start count (λ n. t n || u n) ≡ any_page start count t || any_page start count u
unfolding any_page
any_or start zero t u = refl
any_or start (suc count) t u = rw (any_or (start + 1) count t u) (exchange (t start) (u start) (any_page (start + 1) count t) (any_page (start + 1) count u))

any-never : (start count : ℕ) → any_page start count (λ n. false) ≡ false
unfolding any_page
any-never start zero = refl
any-never start (suc count) = any-never (start + 1) count

pub any_and : (start count : ℕ) (b : Bool) (t : ℕ → Bool) → any_page start count (λ n. b && t n) ≡ b && any_page start count t
any_and start count true t = refl
any_and start count false t = any-never start count

pub any-taken : (start count : ℕ) (t : ℕ → Bool) (rsid : Bool)
    → any_page start count (λ n. t n || rsid && reserved_page n)
    ≡ any_page start count t || rsid && (any_page start count (between 0x00 0x03) || any_page start count (between 0xA0 0xBF) || any_page start count (between 0xD0 0xFF))
any-taken start count t rsid =
    any_or start count t (λ n. rsid && reserved_page n)
    ∙ rw (any_and start count rsid reserved_page, any_or start count (λ n. between 0x00 0x03 n || between 0xA0 0xBF n) (between 0xD0 0xFF), any_or start count (between 0x00 0x03) (between 0xA0 0xBF))

-- a byte of the payload in page n, by its address
pub record Byte (p : Payload) (n : ℕ) : Type 0 where
  pub address : ℕ
  pub low : p.load ≤ address
  pub high : address < p.load + p.len
  pub page : address / 256 ≡ n

pub byte-touched : (p : Payload) (n : ℕ) → Byte p n → touched p n ≡ true
byte-touched p n b =
    let low : p.load / 256 ≤ n = omega (arith, b.low, b.page) in
    let high : n ≤ (p.load + p.len - 1) / 256 = omega (arith, b.high, b.page) in
    and_true (le-leb (p.load / 256) n low) (le-leb n ((p.load + p.len - 1) / 256) high)

pub touched-byte : (p : Payload) (n : ℕ) → 0 < p.len → touched p n ≡ true → Byte p n
touched-byte p n some e =
    let low = leb-true (p.load / 256) n (both_left (leb (p.load / 256) n) (leb n ((p.load + p.len - 1) / 256)) e) in
    let high = leb-true n ((p.load + p.len - 1) / 256) (both_right (leb (p.load / 256) n) (leb n ((p.load + p.len - 1) / 256)) e) in
    record { address = max p.load (256 * n); low = omega arith; high = omega arith; page = omega arith }
