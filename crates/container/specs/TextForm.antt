-- The text in the paper's words: 25 is answered exactly where the file does not go on with five lines of 0 to
-- 32 bytes other than $0D and $00, each closed by $0D, and one $00.
-- plain_bytes, good_line   bytes other than $0D and $00, and 0 to 32 of them
-- closed_line             a line, the $0D that closes it, and what follows
-- text_form               five lines, each closed, a $00, and what follows
-- GoodLines              five good lines
-- text-split             a text that fits is its five lines in that form
-- lines-good             and they are good lines
-- text-join              what has that form fits, and ends with the $00
use Rattle.std.specs.Prelude.{ℕ, suc, ◌+◌, ◌<◌, ◌≡◌, refl, Bool, true, not, ◌&&◌, List, [], ◌∷◌, ◌++◌, length, drop, get_or, ltb, leb, eqb}
use Rattle.std.proofs.Common.{sym, ap, ◌∙◌, arith, add-one, take-append-drop, length-drop, drop-cons, drop-drop, ltb-true, ltb-false, eqb-true, lt-ltb}
use Rattle.std.proofs.Math.ListN.{get_or-eq_default}
use Rattle.std.proofs.Math.Seq.{drop-append_seam}
use Rattle.std.proofs.lemmas.Bool.{not-true}
use Rattle.logic.specs.Cases.{cases}
use Rattle.logic.specs.Truth.{both}
use Rattle.container.specs.Text.{ends_line, line_bytes, line_at, line_fits, next_line, line_start, line, zero_at, text_fits, text_end}
use Rattle.container.specs.TextLaws.{take-line}

abbrev pub plain_bytes : List ℕ → Bool
plain_bytes [] = true
plain_bytes (b ∷ bs) = not (ends_line b) && plain_bytes bs

abbrev pub good_line : List ℕ → Bool
good_line l = plain_bytes l && leb (length l) 32

abbrev pub closed_line : List ℕ → List ℕ → List ℕ
closed_line l rest = l ++ 0x0D ∷ rest

abbrev pub text_form : List ℕ → List ℕ → List ℕ → List ℕ → List ℕ → List ℕ → List ℕ
text_form l1 l2 l3 l4 l5 rest = closed_line l1 (closed_line l2 (closed_line l3 (closed_line l4 (closed_line l5 (0 ∷ rest)))))

abbrev pub GoodLines : List ℕ → List ℕ → List ℕ → List ℕ → List ℕ → Type 0
GoodLines l1 l2 l3 l4 l5 = (good_line l1 ≡ true) × (good_line l2 ≡ true) × (good_line l3 ≡ true) × (good_line l4 ≡ true) × (good_line l5 ≡ true)

line_plain : (s : List ℕ) → plain_bytes (line_bytes s) ≡ true
unfolding line_bytes
line_plain [] = refl
line_plain (b ∷ bs) = cases (ends_line b) (λ e. rw e) (λ e. rw (e, e, line_plain bs))

plain-line : (l rest : List ℕ) → plain_bytes l ≡ true → line_bytes (closed_line l rest) ≡ l
unfolding line_bytes
plain-line [] rest e = refl
plain-line (b ∷ bs) rest e =
    let p = both (not (ends_line b)) (plain_bytes bs) e in
    rw (not-true (ends_line b) p.0) (ap (λ (l : List ℕ). b ∷ l) (plain-line bs rest p.1))

module _ (f : List ℕ) where
  -- a byte that is not 0 lies in the file
  inside : (k : ℕ) → get_or f k 0 ≡ 0x0D → k < length f
  inside k e =
      cases (ltb k (length f)) (ltb-true k (length f)) (λ p. absurd (omega (arith, e, get_or-eq_default f 0 (ltb-false k (length f) p))))

  line-split : (s : ℕ) → line_fits f s ≡ true → drop s f ≡ closed_line (line_at f s) (drop (next_line f s) f)
  line-split s e =
      let l = line_at f s in
      let closer = eqb-true (get_or f (s + length l) 0) 0x0D (both (leb (length l) 32) (eqb (get_or f (s + length l) 0) 0x0D) e).1 in
      let rest : drop (length l) (drop s f) ≡ 0x0D ∷ drop (next_line f s) f = rw (drop-drop (length l) s f, drop-cons f (s + length l) 0 (inside (s + length l) closer), closer, add-one (s + length l)) in
      sym (take-append-drop (length l) (drop s f)) ∙ rw (take-line (drop s f), rest)

  zero-split : (k : ℕ) → zero_at f k ≡ true → drop k f ≡ 0 ∷ drop (k + 1) f
  zero-split k e =
      let p = both (ltb k (length f)) (eqb (get_or f k 0) 0) e in
      rw (drop-cons f k 0 (ltb-true k (length f) p.0), eqb-true (get_or f k 0) 0 p.1, add-one k)

  line-good : (s : ℕ) → line_fits f s ≡ true → good_line (line_at f s) ≡ true
  line-good s e =
      let l = line_at f s in
      rw (line_plain (drop s f)) (both (leb (length l) 32) (eqb (get_or f (s + length l) 0) 0x0D) e).0

  -- the byte at a place, by what the file goes on with there
  byte-join : (k b : ℕ) (rest : List ℕ) → drop k f ≡ b ∷ rest → (k < length f) × (get_or f k 0 ≡ b) × (drop (k + 1) f ≡ rest)
  byte-join k b rest e =
      let short : k < length f = omega (arith, length-drop k f, ap length e) in
      let split = sym (drop-cons f k 0 short) ∙ e in
      let byte : get_or f k 0 ≡ b = cc in
      let after : drop (suc k) f ≡ rest = cc in
      (short, byte, rw (add-one k) after)

  line-join : (s : ℕ) (l rest : List ℕ) → good_line l ≡ true → drop s f ≡ closed_line l rest
      → (line_at f s ≡ l) × (line_fits f s ≡ true) × (drop (next_line f s) f ≡ rest)
  line-join s l rest g e =
      let p = both (plain_bytes l) (leb (length l) 32) g in
      let same : line_at f s ≡ l = rw e (plain-line l rest p.0) in
      let q = byte-join (s + length l) 0x0D rest (sym (drop-drop (length l) s f) ∙ rw e (drop-append_seam l (0x0D ∷ rest))) in
      (same, rw (same, p.1, q.1), rw same q.2)

  zero-join : (k : ℕ) (rest : List ℕ) → drop k f ≡ 0 ∷ rest → (zero_at f k ≡ true) × (drop (k + 1) f ≡ rest)
  zero-join k rest e = let q = byte-join k 0 rest e in (rw (lt-ltb k (length f) q.0, q.1), q.2)

  module _ (at : ℕ) where
    -- what the six parts of `text_fits` say
    abbrev FiveFit : Type 0
    FiveFit =
        (line_fits f (line_start f at 0) ≡ true)
        × (line_fits f (line_start f at 1) ≡ true)
        × (line_fits f (line_start f at 2) ≡ true)
        × (line_fits f (line_start f at 3) ≡ true)
        × (line_fits f (line_start f at 4) ≡ true)
        × (zero_at f (line_start f at 5) ≡ true)

    five_fit : text_fits f at ≡ true → FiveFit
    five_fit e =
        let fits : ℕ → Bool = λ i. line_fits f (line_start f at i) in
        let p5 = both (fits 0 && fits 1 && fits 2 && fits 3 && fits 4) (zero_at f (line_start f at 5)) e in
        let p4 = both (fits 0 && fits 1 && fits 2 && fits 3) (fits 4) p5.0 in
        let p3 = both (fits 0 && fits 1 && fits 2) (fits 3) p4.0 in
        let p2 = both (fits 0 && fits 1) (fits 2) p3.0 in
        let p1 = both (fits 0) (fits 1) p2.0 in
        (p1.0, p1.1, p2.1, p3.1, p4.1, p5.1)

    -- A text that fits is its five lines, each closed by $0D, then one $00.
    pub text-split : text_fits f at ≡ true
        → drop at f ≡ text_form (line f at 0) (line f at 1) (line f at 2) (line f at 3) (line f at 4) (drop (text_end f at) f)
    text-split e =
        let p = five_fit e in
        line-split (line_start f at 0) p.0
        ∙ ap (closed_line (line f at 0)) (line-split (line_start f at 1) p.1
        ∙ ap (closed_line (line f at 1)) (line-split (line_start f at 2) p.2
        ∙ ap (closed_line (line f at 2)) (line-split (line_start f at 3) p.3
        ∙ ap (closed_line (line f at 3)) (line-split (line_start f at 4) p.4
        ∙ ap (closed_line (line f at 4)) (zero-split (line_start f at 5) p.5)))))

    -- Its lines have 0 to 32 bytes, and none of these is $0D or $00.
    pub lines-good : text_fits f at ≡ true → GoodLines (line f at 0) (line f at 1) (line f at 2) (line f at 3) (line f at 4)
    lines-good e =
        let p = five_fit e in (
          line-good (line_start f at 0) p.0,
          line-good (line_start f at 1) p.1,
          line-good (line_start f at 2) p.2,
          line-good (line_start f at 3) p.3,
          line-good (line_start f at 4) p.4,
        )

    -- A file that goes on with five good lines, each closed by $0D, and one $00 has a text that fits.
    pub text-join : (l1 l2 l3 l4 l5 rest : List ℕ) → GoodLines l1 l2 l3 l4 l5 → drop at f ≡ text_form l1 l2 l3 l4 l5 rest
        → (text_fits f at ≡ true) × (drop (text_end f at) f ≡ rest)
    text-join l1 l2 l3 l4 l5 rest g e =
        let p0 = line-join (line_start f at 0) l1 _ g.0 e in
        let p1 = line-join (line_start f at 1) l2 _ g.1 p0.2 in
        let p2 = line-join (line_start f at 2) l3 _ g.2 p1.2 in
        let p3 = line-join (line_start f at 3) l4 _ g.3 p2.2 in
        let p4 = line-join (line_start f at 4) l5 _ g.4 p3.2 in
        let p5 = zero-join (line_start f at 5) rest p4.2 in
        (rw (p0.1, p1.1, p2.1, p3.1, p4.1, p5.0), p5.1)
