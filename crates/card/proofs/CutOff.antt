-- kind-cut   the first n bytes of a file have the kind of the whole file
use Rattle.std.specs.Prelude.{ℕ, ◌≤◌, ◌≡◌, List, length, take}
use Rattle.std.proofs.Common.{sym, ap, ◌∙◌, arith, length-take-le}
use Rattle.logic.specs.Cases.{cases}
use Rattle.sap.specs.FirstLine.{first_line}
use Rattle.card.specs.Kinds.{file_kind, kind_of_judgement, kind-long}
use Rattle.card.proofs.KindJudged.{kind-judged}
use Rattle.card.specs.CutOff.{line-take, judged-cut}

-- The first n bytes of a file have the kind of the whole file, for n from 65,663 to its length, whatever it
-- begins with: a file so long that begins with `SAP` CR LF is no MUS song.
pub kind-cut : (f : List ℕ) (n : ℕ) → 65663 ≤ n → n ≤ length f → file_kind (take n f) ≡ file_kind f
kind-cut f n h k =
    cases (first_line f)
    (λ b. let size = length-take-le n f k in
    kind-long (take n f) (line-take f n (omega arith) ∙ b) (omega arith) ∙ sym (kind-long f b (omega arith)))
    (λ b. sym (kind-judged (take n f)) ∙ ap kind_of_judgement (judged-cut f n b h k) ∙ kind-judged f)
