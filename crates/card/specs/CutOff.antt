-- A file longer than any PSID, RSID or MUS file that is accepted may be cut off: from 65,663 bytes on, the
-- first of them are judged as all of them. A file that begins with `SAP` CR LF may not be cut off: a SAP file
-- has no greatest length. So a program that has room for n bytes of a file has the whole file's answer,
-- unless the room is filled and what fills it begins with `SAP` CR LF.
-- judged-cut    the first bytes of a file that does not begin with `SAP` CR LF
-- cut_sap        whether the bytes that a program holds may be only a part of a SAP file
-- judged-held   where not, they are judged as the whole file
-- held-long     where so, the whole file begins with `SAP` CR LF and has as many bytes as there is room for
-- That they have the kind of the whole file, also those of a SAP file, stands in proofs/CutOff.antt.
use Rattle.std.specs.Prelude.{ℕ, ◌≤◌, ◌≡◌, Bool, true, false, ◌&&◌, List, leb, length, take}
use Rattle.std.proofs.Common.{sym, ap, ◌∙◌, arith, length-take, get_or-take, take_all, leb-true, leb-false, le-leb}
use Rattle.logic.specs.Cases.{cases}
use Rattle.logic.specs.Truth.{both}
use Rattle.fields.specs.Numbers.{be16, be32}
use Rattle.sid.proofs.CutOff as sid
use Rattle.sap.specs.FirstLine.{first_line}
use Rattle.mus.specs.Laws as mus
use Rattle.card.specs.Judging.{judged}

magic-take : (f : List ℕ) (n : ℕ) → 4 ≤ n → be32 (take n f) 0 ≡ be32 f 0
unfolding be32 be16
magic-take f n h = rw (get_or-take n f 0 0 (omega arith), get_or-take n f 1 0 (omega arith), get_or-take n f 2 0 (omega arith), get_or-take n f 3 0 (omega arith))

pub line-take : (f : List ℕ) (n : ℕ) → 5 ≤ n → first_line (take n f) ≡ first_line f
unfolding first_line
line-take f n h =
    rw (
      get_or-take n f 0 0 (omega arith),
      get_or-take n f 1 0 (omega arith),
      get_or-take n f 2 0 (omega arith),
      get_or-take n f 3 0 (omega arith),
      get_or-take n f 4 0 (omega arith),
    )

-- The first n bytes of a file that does not begin with `SAP` CR LF are judged as the whole file, for n from
-- 65,663 to its length.
pub judged-cut : (f : List ℕ) (n : ℕ) → first_line f ≡ false → 65663 ≤ n → n ≤ length f → judged (take n f) ≡ judged f
judged-cut f n e h k =
    rw (magic-take f n (omega arith), sid.cut_off f n h k, line-take f n (omega arith), e, mus.song-cut-off f n (omega arith) (omega arith))

-- A program has room for n bytes, and holds the first bytes of a file. They may be only a part of a SAP file
-- where they fill the room and begin with `SAP` CR LF.
abbrev pub cut_sap : List ℕ → ℕ → Bool
cut_sap held n = leb n (length held) && first_line held

-- Where not, and the room is 65,663 bytes or more, they are judged as the whole file.
pub judged-held : (f : List ℕ) (n : ℕ) → 65663 ≤ n → cut_sap (take n f) n ≡ false → judged (take n f) ≡ judged f
judged-held f n h e =
    cases (leb n (length f))
    (λ k. let many = leb-true n (length f) k in judged-cut f n (other many) h many)
    (λ k. let few = leb-false n (length f) k in ap judged (take_all n f (omega arith)))
  where
    other : n ≤ length f → first_line f ≡ false
    other many =
        let all : n ≤ length (take n f) = omega (arith, length-take n f) in
        sym (line-take f n (omega arith)) ∙ (rw (le-leb n (length (take n f)) all) at e)

-- Where so, the whole file begins with `SAP` CR LF and has n bytes or more.
pub held-long : (f : List ℕ) (n : ℕ) → 5 ≤ n → cut_sap (take n f) n ≡ true → (first_line f ≡ true) × (n ≤ length f)
held-long f n h e =
    let p = both (leb n (length (take n f))) (first_line (take n f)) e in
    let all = leb-true n (length (take n f)) p.0 in
    (sym (line-take f n h) ∙ p.1, omega (arith, length-take n f))
