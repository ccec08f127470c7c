-- A list filled from its first cell on, part by part, with what a reader gives.
-- fill_next   one part more
-- took_next   the reader has lost what lies in the first cells: one part more
use Rattle.std.specs.Prelude.{ℕ, ◌+◌, ◌≤◌, ◌≡◌, List, ◌++◌, length, take, drop, None, Some}
use Rattle.std.proofs.Common.{sym, ap, ◌∙◌, arith, append_assoc, length-append, length-take}
use Rattle.std.proofs.Math.Seq.{drop-drop, drop-append_seam, take-append_seam}
use Rattle.std.specs.declared.option.Option.{Option}
use Rattle.std.specs.Io.KnownBytes.{Consumes}
use Rattle.fields.specs.Parts.{put}
use Rattle.fields.proofs.Memory.{length-put}
use Rattle.files.specs.Reading.{Filled}

module _ (out new p : List ℕ) (done n : ℕ) (room : done + n ≤ length out) (all : length p ≡ n)
    (e : new ≡ put out done p) where
  seam : length (take done out ++ p) ≡ done + n
  seam = length-append (take done out) p ∙ omega (arith, length-take done out, all, room)

  pub fill_next : (before : List ℕ) → Filled done before out → Filled (done + n) before new
  unfolding put
  fill_next before filled =
      let cells : length new ≡ length out = ap length e ∙ length-put out done p (omega (arith, room, all)) in
      let after : drop (done + n) new ≡ drop (done + length p) out =
      rw (e, ← seam) (drop-append_seam (take done out ++ p) (drop (done + length p) out)) in
      record {
        within = omega (arith, cells, room);
        cells = cells ∙ filled.cells;
        others =
            after ∙ rw all (sym (drop-drop n done out) ∙ ap (drop n) filled.others ∙ drop-drop n done before);
      }

  front : take (done + n) new ≡ take done out ++ p
  unfolding put
  front = rw (e, ← seam) (take-append_seam (take done out ++ p) (drop (done + length p) out))

  pub took_next : (a b c : Option (List ℕ)) → Consumes a b (take done out) → Consumes b c p
      → Consumes a c (take (done + n) new)
  took_next None b c before next = tt
  took_next (Some xs) None c before next = absurd before
  took_next (Some xs) (Some ys) None before next = absurd next
  took_next (Some xs) (Some ys) (Some zs) before next =
      let first = take done out in
      rw front (before ∙ ap (λ (l : List ℕ). first ++ l) next ∙ sym (append_assoc first p zs))
