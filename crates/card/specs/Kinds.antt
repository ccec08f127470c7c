-- docs/DECISIONS.md, 'What kind a file is': the kind of a file as a number, whether it is accepted or not.
-- head_kind       0 where one of the refusals 21 to 24 applies to a file as a MUS file, else 3 (MUS)
-- sap_kind        4 (SAP) where the SAP reader accepts a file, else 3 where the MUS reader accepts it, else 4
-- file_kind       1 where a file begins with PSID, 2 where it begins with RSID, its sap_kind where it begins
--                with `SAP` CR LF, else its head_kind
-- number_of_kind   the number of each case of an answer
-- kind_of_tune, kind_of_judgement   the kind that a judgement gives a file
-- tune-kind, sap-kind, head-kind   so for each way to judge a file; that the kind of a file is the one that
--                its judgement gives it stands in proofs/KindJudged.antt (kind-judged)
-- kind-most      it is at most 4
-- kind-long      it is 4 for a file of more than 65,536 bytes that begins with `SAP` CR LF
-- kind-once      no two answers have the same number
use Rattle.std.specs.Prelude.{ℕ, ◌<◌, ◌≤◌, ◌≡◌, refl, List, true, cond, eqb, length}
use Rattle.std.proofs.Common.{sym, ap, ◌∙◌, lit≤}
use Rattle.logic.specs.Cases.{cases}
use Rattle.refusals.specs.Numbers.{Outcome}
use Rattle.refusals.specs.Numbers.Outcome.{accepted, refused}
use Rattle.fields.specs.Numbers.{be32}
use Rattle.sidheader.specs.Fields.{psid, rsid, fields_of}
use Rattle.sid.specs.declared.Kind.{Kind}
use Rattle.sid.specs.declared.Kind.TheVariants as tune
use Rattle.sid.specs.declared.Header.{Header}
use Rattle.sid.specs.Header.{kind_of_magic, header_of}
use Rattle.sid.specs.Answers.{sid_outcome}
use Rattle.sid.specs.Acceptance.{accepted-header}
use Rattle.sapheader.specs.declared.Header.{Header as SapHeader}
use Rattle.sap.specs.FirstLine.{first_line}
use Rattle.sap.specs.Answers.{sap_outcome}
use Rattle.container.specs.declared.Voices.{Voices}
use Rattle.container.specs.Head.{head_outcome}
use Rattle.mus.specs.declared.Song.{Song}
use Rattle.mus.specs.Song.{mus_outcome}
use Rattle.mus.specs.Laws.{long-refused}
use Rattle.card.specs.declared.FileKind.{FileKind}
use Rattle.card.specs.declared.FileKind.TheVariants as answer
use Rattle.card.specs.Judging.{Judgement, as_tune, as_sap}
use Rattle.card.specs.Laws.{no-tune, by_head}

abbrev pub head_kind : Outcome Voices → ℕ
head_kind (accepted v) = 3
head_kind (refused number place) = 0

abbrev pub sap_kind : Outcome SapHeader → Outcome Song → ℕ
sap_kind (accepted h) mus = 4
sap_kind (refused number place) (accepted s) = 3
sap_kind (refused number place) (refused musNumber musPlace) = 4

abbrev pub file_kind : List ℕ → ℕ
file_kind f =
    cond (eqb (be32 f 0) psid) 1
    (cond (eqb (be32 f 0) rsid) 2
    (cond (first_line f) (sap_kind (sap_outcome f) (mus_outcome f)) (head_kind (head_outcome f))))

abbrev pub number_of_kind : FileKind → ℕ
number_of_kind answer.Neither = 0
number_of_kind answer.Psid = 1
number_of_kind answer.Rsid = 2
number_of_kind answer.Mus = 3
number_of_kind answer.Sap = 4

abbrev pub kind_of_tune : Kind → ℕ
kind_of_tune tune.Psid = 1
kind_of_tune tune.Rsid = 2

abbrev pub kind_of_judgement : Judgement → ℕ
kind_of_judgement (Judgement.tune h) = kind_of_tune h.kind
kind_of_judgement (Judgement.refused_tune kind number place) = kind_of_tune kind
kind_of_judgement (Judgement.sap h) = 4
kind_of_judgement (Judgement.refused_sap number place) = 4
kind_of_judgement (Judgement.song s) = 3
kind_of_judgement (Judgement.refused_song number place) = 3
kind_of_judgement (Judgement.neither number place) = 0

-- an accepted file's header has the kind of its magic, and a refused file the one that it is judged by
pub tune-kind : (f : List ℕ) (k : Kind) → kind_of_magic (be32 f 0) ≡ k → kind_of_judgement (as_tune k (sid_outcome f)) ≡ kind_of_tune k
unfolding header_of fields_of
tune-kind f k m = go (sid_outcome f) refl
  where
    go : (o : Outcome Header) → sid_outcome f ≡ o → kind_of_judgement (as_tune k o) ≡ kind_of_tune k
    go (accepted h) e = ap (λ (x : Header). kind_of_tune x.kind) (sym (accepted-header f h e)) ∙ ap kind_of_tune m
    go (refused n p) e = refl

pub sap-kind : (o : Outcome SapHeader) (m : Outcome Song) → kind_of_judgement (as_sap o m) ≡ sap_kind o m
sap-kind (accepted h) m = refl
sap-kind (refused n p) (accepted s) = refl
sap-kind (refused n p) (refused k q) = refl

pub head-kind : (h : Outcome Voices) (o : Outcome Song) → kind_of_judgement (by_head h o) ≡ head_kind h
head-kind (refused n p) o = refl
head-kind (accepted v) (accepted s) = refl
head-kind (accepted v) (refused n p) = refl

head-most : (o : Outcome Voices) → head_kind o ≤ 4
head-most (accepted v) = lit≤ tt
head-most (refused n p) = lit≤ tt

sap-most : (o : Outcome SapHeader) (m : Outcome Song) → sap_kind o m ≤ 4
sap-most (accepted h) m = lit≤ tt
sap-most (refused n p) (accepted s) = lit≤ tt
sap-most (refused n p) (refused k q) = lit≤ tt

-- The kind of a file is at most 4.
pub kind-most : (f : List ℕ) → file_kind f ≤ 4
kind-most f =
    cases (eqb (be32 f 0) psid) (λ p. rw p (lit≤ tt))
    (λ p. cases (eqb (be32 f 0) rsid) (λ r. rw (p, r) (lit≤ tt))
    (λ r. cases (first_line f) (λ b. rw (p, r, b) (sap-most (sap_outcome f) (mus_outcome f))) (λ b. rw (p, r, b) (head-most (head_outcome f)))))

-- A file of more than 65,536 bytes that begins with `SAP` CR LF is of kind 4: no MUS song is so long.
pub kind-long : (f : List ℕ) → first_line f ≡ true → 65536 < length f → file_kind f ≡ 4
kind-long f b h = rw ((no-tune f b).0, (no-tune f b).1, b, long-refused f h) (go (sap_outcome f))
  where
    go : (o : Outcome SapHeader) → sap_kind o (refused 22 0) ≡ 4
    go (accepted x) = refl
    go (refused n p) = refl

-- the answer of a number
abbrev kind_numbered : ℕ → FileKind
kind_numbered n =
    cond (eqb n 0) answer.Neither (cond (eqb n 1) answer.Psid (cond (eqb n 2) answer.Rsid (cond (eqb n 3) answer.Mus answer.Sap)))

kind-back : (a : FileKind) → kind_numbered (number_of_kind a) ≡ a
kind-back answer.Neither = refl
kind-back answer.Psid = refl
kind-back answer.Rsid = refl
kind-back answer.Mus = refl
kind-back answer.Sap = refl

-- No two answers have the same number.
pub kind-once : (a b : FileKind) → number_of_kind a ≡ number_of_kind b → a ≡ b
kind-once a b e = sym (kind-back a) ∙ ap kind_numbered e ∙ kind-back b
