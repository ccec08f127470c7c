-- The pieces of bytes, from the byte where a line begins on. Assumes nothing.
-- Closed          the bytes are a piece, CR LF, and the bytes that the other pieces are of
-- pieces_of       either there is one piece, or so
-- first-cut       where CR LF stands at a place, so, and the first piece ends there or before
-- marker-first    FF FF stands at the front of the bytes as at the front of their first piece
use Prim.Native.Nat.{ℕ, zero, suc, ◌≤◌}
use mathlib.Core.Path.{◌≡◌, refl, ap}
use mathlib.Core.Bool.{true, false, false≢true, ◌&&◌}
use mathlib.Core.List.{List, [], ◌∷◌, ◌++◌}
use mathlib.Core.Logic.{◌⊎◌, inl, inr}
use native.Mathlib.Omega.{arith}
use lib.ListN.{length, drop, get_or}
use lib.Seq.{drop-nil}
use lib.Dec.{eqb}
use borrow.Author.Tests.{eqb-true}
use Rattle.logic.specs.Cases.{cases}
use Rattle.logic.specs.Truth.{both, both_left}
use Rattle.characters.specs.Characters.{begins, stands}
use Rattle.sapblocks.specs.Blocks.{marker}
use Rattle.saptext.specs.Text.{cut}
use Rattle.saptext.specs.Reading.{line_end}

pub record Closed (s : List ℕ) : Type 0 where
  pub after : List ℕ
  pub bytes : s ≡ (cut s).first ++ 0x0D ∷ 0x0A ∷ after
  pub others : (cut s).later ≡ (cut after).first ∷ (cut after).later

-- CR LF at the front closes an empty piece
closed-here : (b : ℕ) (bs : List ℕ) → eqb b 0x0D && begins 0x0A bs ≡ true → Closed (b ∷ bs)
unfolding cut
closed-here b [] e = absurd (let q = (both (eqb b 0x0D) false e).1 in let z : ◌≡◌ {A = ℕ} 0 1 = cc in omega arith)
closed-here b (c ∷ bs) e =
    let q = both (eqb b 0x0D) (eqb c 0x0A) e in
    let cr = eqb-true b 0x0D q.0 in
    let lf = eqb-true c 0x0A q.1 in
    record { after = bs; bytes = rw (e, cr, lf); others = rw (e, lf) }

-- a byte before a piece that is closed
closed-more : (b : ℕ) (bs : List ℕ) → eqb b 0x0D && begins 0x0A bs ≡ false → Closed bs → Closed (b ∷ bs)
unfolding cut
closed-more b bs e c = record { after = c.after; bytes = rw e (ap (λ (l : List ℕ). b ∷ l) c.bytes); others = rw e c.others }

pub pieces_of : (s : List ℕ) → ((cut s).later ≡ []) ⊎ Closed s
unfolding cut
pieces_of [] = inl refl
pieces_of (b ∷ bs) =
    cases (eqb b 0x0D && begins 0x0A bs) (λ e. inr (closed-here b bs e)) (λ e. go e (pieces_of bs))
  where
    go : eqb b 0x0D && begins 0x0A bs ≡ false → ((cut bs).later ≡ []) ⊎ Closed bs → ((cut (b ∷ bs)).later ≡ []) ⊎ Closed (b ∷ bs)
    go e (inl q) = inl (rw e q)
    go e (inr c) = inr (closed-more b bs e c)

pub first-cut : (n : ℕ) (s : List ℕ) → stands line_end (drop n s) ≡ true → Closed s × (length (cut s).first ≤ n)
unfolding cut stands
first-cut n [] h = absurd (false≢true (rw (drop-nil n) at h))
first-cut zero (b ∷ bs) h =
    let q = both (eqb b 0x0D) (begins 0x0A bs && true) h in
    let e : eqb b 0x0D && begins 0x0A bs ≡ true = rw q.0 (both_left (begins 0x0A bs) true q.1) in
    (closed-here b bs e, rw e (omega arith))
first-cut (suc n) (b ∷ bs) h =
    cases (eqb b 0x0D && begins 0x0A bs)
    (λ e. (closed-here b bs e, rw e (omega arith)))
    (λ e. let r = first-cut n bs h in (closed-more b bs e r.0, rw e (omega (arith, r.1))))

-- the first byte of bytes and of their first piece
head_first : (s : List ℕ) → eqb (get_or (cut s).first 0 0) 0xFF ≡ eqb (get_or s 0 0) 0xFF
unfolding cut
head_first [] = refl
head_first (b ∷ bs) =
    cases (eqb b 0x0D && begins 0x0A bs) (λ e. let cr = eqb-true b 0x0D (both (eqb b 0x0D) (begins 0x0A bs) e).0 in rw (e, cr)) (λ e. rw e)

pub marker-first : (s : List ℕ) → marker (cut s).first ≡ marker s
unfolding cut
marker-first [] = refl
marker-first (b ∷ bs) =
    cases (eqb b 0x0D && begins 0x0A bs) (λ e. let cr = eqb-true b 0x0D (both (eqb b 0x0D) (begins 0x0A bs) e).0 in rw (e, cr))
    (λ e. rw (e, head_first bs))
