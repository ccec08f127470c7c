-- kind-judged   the kind of a file is the one that its judgement gives it
use Rattle.std.specs.Prelude.{ℕ, ◌≡◌, List, eqb}
use Rattle.std.proofs.Common.{sym, ap, ◌∙◌, eqb-true}
use Rattle.logic.specs.Cases.{cases}
use Rattle.fields.specs.Numbers.{be32}
use Rattle.sidheader.specs.Fields.{psid, rsid}
use Rattle.sid.specs.declared.Kind.TheVariants as tune
use Rattle.sid.specs.Header.{kind_of_magic}
use Rattle.sap.specs.FirstLine.{first_line}
use Rattle.sap.specs.Answers.{sap_outcome}
use Rattle.container.specs.Head.{head_outcome}
use Rattle.mus.specs.Song.{mus_outcome}
use Rattle.card.specs.Judging.{judged}
use Rattle.card.specs.Laws.{by_head_lem}
use Rattle.card.specs.Kinds.{file_kind, kind_of_judgement, tune-kind, sap-kind, head-kind}

-- The kind of a file is the one that its judgement gives it.
pub kind-judged : (f : List ℕ) → kind_of_judgement (judged f) ≡ file_kind f
kind-judged f =
    cases (eqb (be32 f 0) psid) (λ p. rw p (tune-kind f tune.Psid (ap kind_of_magic (eqb-true (be32 f 0) psid p))))
    (λ p. cases (eqb (be32 f 0) rsid) (λ r. rw (p, r) (tune-kind f tune.Rsid (ap kind_of_magic (eqb-true (be32 f 0) rsid r))))
    (λ r. cases (first_line f) (λ b. rw (p, r, b) (sap-kind (sap_outcome f) (mus_outcome f)))
    (λ b. rw (p, r, b) (ap kind_of_judgement (sym (by_head_lem f)) ∙ head-kind (head_outcome f) (mus_outcome f)))))
