-- Two neighbouring lines exchanged in a file: AUTHOR, NAME and DATE may stand elsewhere, and their bytes are
-- the same.
-- texts_exchanged the law
use Rattle.std.specs.Prelude.{ℕ, ◌≡◌, refl, false}
use Rattle.std.proofs.Math.Path.{sym, ap}
use Rattle.std.proofs.Common.{◌∙◌}
use mathlib.Core.List.{List, [], ◌∷◌, ◌++◌}
use Rattle.saptags.specs.declared.Tag.{Tag}
use Rattle.saptext.specs.Stated.{bad_lines, stated}
use Rattle.saplaws.specs.Exchange.{placed, both_time, line_of}
use Rattle.saplaws.specs.Files.{closed, with_two, Exchanged}
use Rattle.saplaws.specs.Texts.{OfText, text_bytes, line_text, texts_placed}
use Rattle.saplaws.proofs.Exchange.{line-exchanged}

-- lines in two parts
closed_append : (ls ks : List (List ℕ)) (q : List ℕ) → closed (ls ++ ks) q ≡ closed ls (closed ks q)
closed_append [] ks q = refl
closed_append (l ∷ ls) ks q = rw (closed_append ls ks q)

-- Where the lines are good and the two are not both TIME, the bytes of each text are the same.
pub texts_exchanged : (before : List (List ℕ)) (x y q : List ℕ) (e : Exchanged before x y q) → both_time x y ≡ false
    → bad_lines (placed 5 (before ++ x ∷ y ∷ e.after)) ≡ false → (t : Tag) → OfText t
    → text_bytes (with_two before x y q) (stated t (placed 5 (before ++ x ∷ y ∷ e.after)))
    ≡ text_bytes (with_two before y x q) (stated t (placed 5 (before ++ y ∷ x ∷ e.after)))
texts_exchanged before x y q e apart fine t o =
    in_lines x y
    ∙ ap line_text (line-exchanged x y e.after apart 5 before fine t 0)
    ∙ sym (in_lines y x)
  where
    in_lines : (a b : List ℕ)
        → text_bytes (with_two before a b q) (stated t (placed 5 (before ++ a ∷ b ∷ e.after)))
        ≡ line_text (line_of t 0 (placed 5 (before ++ a ∷ b ∷ e.after)))
    in_lines a b =
        texts_placed t o (with_two before a b q) e.tail 5 (before ++ a ∷ b ∷ e.after)
        (ap (λ (s : List ℕ). closed before (closed (a ∷ b ∷ []) s)) e.bytes ∙ sym (closed_append before (a ∷ b ∷ e.after) e.tail))
        0
