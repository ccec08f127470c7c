-- Two neighbouring lines exchanged in a file: the lines of its header are the same but for the two, and what
-- follows them is the same and stands where it did.
-- closed          lines, each closed by CR LF, and the bytes after them
-- file_of          a file of its first line, such lines and the bytes after them
-- with_two         a file with two neighbouring lines
-- Plain, AllPlain a line with no CR LF in it that does not begin with FF FF, and a list of such lines
-- text_after       the text of bytes that stand at an offset of the file
-- with_lines       lines before a text
-- Lined, text_lined   every text that ends is of lines that are placed one after the other
-- cut_line, text-line, text-closed, text-ended   the text of lines and the bytes after them
-- Exchanged, file-exchanged   the law
use Rattle.std.specs.Prelude.{ℕ, suc, ◌+◌, ◌-◌, ◌≤◌, ◌≡◌, true, false, ◌&&◌, ◌⊎◌, length, drop, eqb}
use Rattle.std.proofs.Math.Path.{refl}
use Rattle.std.proofs.Common.{sym, ap, subst, ◌∙◌, inl, inr, arith}
use mathlib.Core.List.{List, [], ◌∷◌, ◌++◌, append-nil}
use Rattle.std.proofs.Math.Seq.{drop-append-add}
use Rattle.logic.specs.Cases.{cases}
use Rattle.characters.specs.Characters.{begins}
use Rattle.sapblocks.specs.Blocks.{marker, blocks_in}
use Rattle.saptext.specs.Text.{cut, StoredLine, Text, with_line, text_from, text_in}
use Rattle.saptext.specs.Text.Text.{unended, ended}
use Rattle.saptext.proofs.Cutting.{Closed, pieces_of, marker-first}
use Rattle.saplaws.specs.Exchange.{placed, end_of, end-exchanged}

abbrev pub closed : List (List ℕ) → List ℕ → List ℕ
closed [] q = q
closed (l ∷ ls) q = l ++ 0x0D ∷ 0x0A ∷ closed ls q

abbrev pub file_of : List (List ℕ) → List ℕ → List ℕ
file_of ls q = 0x53 ∷ 0x41 ∷ 0x50 ∷ 0x0D ∷ 0x0A ∷ closed ls q

abbrev pub with_two : List (List ℕ) → List ℕ → List ℕ → List ℕ → List ℕ
with_two before x y q = file_of before (closed (x ∷ y ∷ []) q)

pub record Plain (l : List ℕ) : Type 0 where
  pub uncut : (cut l).later ≡ []
  pub unmarked : marker l ≡ false

abbrev pub AllPlain : List (List ℕ) → Type 0
AllPlain [] = Unit
AllPlain (l ∷ ls) = Plain l × AllPlain ls

abbrev pub text_after : ℕ → List ℕ → Text
text_after at s = text_from at (cut s).first (cut s).later

abbrev pub with_lines : List StoredLine → Text → Text
with_lines [] t = t
with_lines (l ∷ ls) t = with_line l (with_lines ls t)

pub data Lined : ℕ → List ℕ → Text → Type 0 where
  none : {at : ℕ} {s : List ℕ} → Lined at s unended
  some : {at : ℕ} {s : List ℕ} (ls : List (List ℕ)) (q : List ℕ) → s ≡ closed ls q
      → Lined at s (ended (placed at ls) (end_of at ls))

-- a line before lines
line_lined : (at : ℕ) (l q : List ℕ) {s : List ℕ} {t : Text} → s ≡ l ++ 0x0D ∷ 0x0A ∷ q → Lined (at + length l + 2) q t
    → Lined at s (with_line (record { from = at; bytes = l }) t)
line_lined at l q e none = none
line_lined at l q e (some ls r h) = some (l ∷ ls) r (e ∙ ap (λ (k : List ℕ). l ++ 0x0D ∷ 0x0A ∷ k) h)

pieces_lined : (ks : List (List ℕ)) (at : ℕ) (s : List ℕ) → (cut s).later ≡ ks → Lined at s (text_from at (cut s).first ks)
unfolding text_from
pieces_lined [] at s e = cases (marker (cut s).first) (λ m. rw m (some [] s refl)) (λ m. rw m none)
pieces_lined (k ∷ ks) at s e = cases (marker (cut s).first) (λ m. rw m (some [] s refl)) (λ m. rw m (on (pieces_lined ks) (pieces_of s)))
  where
    on : ((from : ℕ) (q : List ℕ) → (cut q).later ≡ ks → Lined from q (text_from from (cut q).first ks))
        → ((cut s).later ≡ []) ⊎ Closed s
        → Lined at s (with_line (record { from = at; bytes = (cut s).first }) (text_from (at + length (cut s).first + 2) k ks))
    on next (inl q) = absurd (let z : ◌≡◌ {A = ℕ} 0 1 = cc in omega arith)
    on next (inr c) =
        let both = sym e ∙ c.others in
        let first : k ≡ (cut c.after).first = cc in
        let later : (cut c.after).later ≡ ks = cc in
        rw first (line_lined at (cut s).first c.after c.bytes (next (at + length (cut s).first + 2) c.after later))

-- Every text that ends is of lines that stand one after the other, each closed by CR LF, and ends after them.
-- So the laws over lists of lines are about the text of every file.
pub text_lined : (at : ℕ) (s : List ℕ) → Lined at s (text_after at s)
text_lined at s = pieces_lined (cut s).later at s refl

-- the first byte after a line is CR, and so no LF
front_same : (bs s : List ℕ) → begins 0x0A (bs ++ 0x0D ∷ 0x0A ∷ s) ≡ begins 0x0A bs
front_same [] s = refl
front_same (b ∷ bs) s = refl

-- A line with no CR LF in it and the CR LF that closes it are cut off as one piece.
pub cut_line : (l s : List ℕ) → (cut l).later ≡ []
    → cut (l ++ 0x0D ∷ 0x0A ∷ s) ≡ record { first = l; later = (cut s).first ∷ (cut s).later }
unfolding cut
cut_line [] s e = refl
cut_line (b ∷ bs) s e =
    cases (eqb b 0x0D && begins 0x0A bs)
    (λ q. absurd (let r = rw q at e in let z : ◌≡◌ {A = ℕ} 0 1 = cc in omega arith))
    (λ q. rw (front_same bs s, q, cut_line bs s (rw q at e)))

-- The text of a line and the bytes after it is that line and their text.
pub text-line : (at : ℕ) (l s : List ℕ) → Plain l
    → text_after at (l ++ 0x0D ∷ 0x0A ∷ s) ≡ with_line (record { from = at; bytes = l }) (text_after (at + length l + 2) s)
unfolding text_from
text-line at l s p = rw (cut_line l s p.uncut, p.unmarked)

-- The same of lines.
pub text-closed : (at : ℕ) (ls : List (List ℕ)) (q : List ℕ) → AllPlain ls
    → text_after at (closed ls q) ≡ with_lines (placed at ls) (text_after (end_of at ls) q)
text-closed at [] q p = refl
text-closed at (l ∷ ls) q p = text-line at l (closed ls q) p.0 ∙ rw (text-closed (at + length l + 2) ls q p.1)

-- lines before placed lines
lines-joined : (at : ℕ) (ls ks : List (List ℕ))
    → with_lines (placed at ls) (ended (placed (end_of at ls) ks) (end_of (end_of at ls) ks)) ≡ ended (placed at (ls ++ ks)) (end_of at (ls ++ ks))
lines-joined at [] ks = refl
lines-joined at (l ∷ ls) ks = rw (lines-joined (at + length l + 2) ls ks)

-- lines before a text that does not end
lines-unended : (ls : List StoredLine) → with_lines ls unended ≡ unended
lines-unended [] = refl
lines-unended (l ∷ ls) = rw (lines-unended ls)

-- Lines and then FF FF: the text is of these lines, placed one after the other, and ends where FF FF stands.
pub text-ended : (at : ℕ) (ls : List (List ℕ)) (q : List ℕ) → AllPlain ls → marker q ≡ true
    → text_after at (closed ls q) ≡ ended (placed at ls) (end_of at ls)
unfolding text_from
text-ended at ls q p e =
    text-closed at ls q p
    ∙ ap (with_lines (placed at ls)) (here (end_of at ls) (cut q).later)
    ∙ lines-joined at ls []
    ∙ ap (λ (ks : List (List ℕ)). ended (placed at ks) (end_of at ks)) (append-nil ls)
  where
    here : (from : ℕ) (ks : List (List ℕ)) → text_from from (cut q).first ks ≡ ended [] from
    here from [] = rw (marker-first q, e)
    here from (k ∷ ks) = rw (marker-first q, e)

-- lines end after they begin
end-least : (at : ℕ) (ls : List (List ℕ)) → at ≤ end_of at ls
end-least at [] = omega arith
end-least at (l ∷ ls) = omega (arith, end-least (at + length l + 2) ls)

end_append : (at : ℕ) (ls ks : List (List ℕ)) → end_of at (ls ++ ks) ≡ end_of (end_of at ls) ks
end_append at [] ks = refl
end_append at (l ∷ ls) ks = end_append (at + length l + 2) ls ks

-- bytes after lines
drop-closed : (at n : ℕ) (ls : List (List ℕ)) (q : List ℕ) → end_of at ls ≤ n → drop (n - at) (closed ls q) ≡ drop (n - end_of at ls) q
drop-closed at n [] q h = refl
drop-closed at n (l ∷ ls) q h =
    let from = at + length l + 2 in
    let least = end-least from ls in
    let past : n - at ≡ length l + suc (suc (n - from)) = omega arith in
    rw (past, drop-append-add l (0x0D ∷ 0x0A ∷ closed ls q) (suc (suc (n - from)))) (drop-closed from n ls q h)

pub record Exchanged (before : List (List ℕ)) (x y q : List ℕ) : Type 0 where
  -- the lines after the two, the bytes after these, and where those begin
  pub after : List (List ℕ)
  pub tail : List ℕ
  pub end : ℕ
  pub bytes : q ≡ closed after tail
  -- the text of the file, and of the file with the two lines exchanged
  pub text : text_in (with_two before x y q) ≡ ended (placed 5 (before ++ x ∷ y ∷ after)) end
  pub other : text_in (with_two before y x q) ≡ ended (placed 5 (before ++ y ∷ x ∷ after)) end
  -- the bytes of both from there on, and their blocks
  pub rest : drop end (with_two before x y q) ≡ drop end (with_two before y x q)
  pub blocks : blocks_in (with_two before x y q) end ≡ blocks_in (with_two before y x q) end

module _ (before : List (List ℕ)) (q : List ℕ) where
  -- where the bytes after two lines begin
  abbrev past : List ℕ → List ℕ → ℕ
  past x y = end_of (end_of 5 before) (x ∷ y ∷ [])

  -- the text of a file with two neighbouring lines, and its bytes after them
  two-text : (x y : List ℕ) (t : Text) → AllPlain before → Plain x → Plain y → text_after (past x y) q ≡ t
      → text_in (with_two before x y q) ≡ with_lines (placed 5 before) (with_lines (placed (end_of 5 before) (x ∷ y ∷ [])) t)
  two-text x y t p px py e =
      text-closed 5 before (closed (x ∷ y ∷ []) q) p
      ∙ ap (with_lines (placed 5 before)) (text-closed (end_of 5 before) (x ∷ y ∷ []) q (px, (py, tt)))
      ∙ rw e

  two-rest : (x y : List ℕ) (n : ℕ) → past x y ≤ n → drop n (with_two before x y q) ≡ drop (n - past x y) q
  two-rest x y n h =
      let least = end-least 5 before in
      let sum : n ≡ suc (suc (suc (suc (suc (n - 5))))) = omega arith in
      ap (λ (k : ℕ). drop k (with_two before x y q)) sum
      ∙ drop-closed 5 n before (closed (x ∷ y ∷ []) q) (omega arith)
      ∙ drop-closed (end_of 5 before) n (x ∷ y ∷ []) q h

  -- Two neighbouring lines of a file exchanged, whatever stands after them: neither text ends, or both are of
  -- the same lines but for the two and end at the same place. From there on the files are the same, and their
  -- blocks too.
  pub file-exchanged : (x y : List ℕ) → AllPlain before → Plain x → Plain y
      → ((text_in (with_two before x y q) ≡ unended) × (text_in (with_two before y x q) ≡ unended)) ⊎ Exchanged before x y q
  unfolding blocks_in
  file-exchanged x y p px py = go (text_after (past x y) q) refl (text_lined (past x y) q)
    where
      -- the bytes after the two lines stand where they did
      swap : past x y ≡ past y x
      swap = end-exchanged x y [] (end_of 5 before) []

      go : (t : Text) → text_after (past x y) q ≡ t → Lined (past x y) q t
          → ((text_in (with_two before x y q) ≡ unended) × (text_in (with_two before y x q) ≡ unended)) ⊎ Exchanged before x y q
      go t e none =
          inl (
            two-text x y unended p px py e ∙ lines-unended (placed 5 before),
            two-text y x unended p py px (rw (← swap) e) ∙ lines-unended (placed 5 before),
          )
      go t e (some ks r h) =
          let end = end_of 5 (before ++ x ∷ y ∷ ks) in
          let after = end-least (past x y) ks in
          let reached : past x y ≤ end = rw (end_append 5 before (x ∷ y ∷ ks)) after in
          let same : drop end (with_two before x y q) ≡ drop end (with_two before y x q) =
          two-rest x y end reached ∙ rw swap (sym (two-rest y x end (rw (← swap) reached))) in
          let moved = subst (λ (k : ℕ). text_after k q ≡ ended (placed k ks) (end_of k ks)) swap e in
          inr
          (record {
            after = ks;
            tail = r;
            bytes = h;
            end = end;
            text = two-text x y t p px py e ∙ lines-joined 5 before (x ∷ y ∷ ks);
            other =
                two-text y x (ended (placed (past y x) ks) (end_of (past y x) ks)) p py px moved
                ∙ lines-joined 5 before (y ∷ x ∷ ks)
                ∙ ap (ended (placed 5 (before ++ y ∷ x ∷ ks))) (end-exchanged y x ks 5 before);
            rest = same;
            blocks = rw same;
          })
