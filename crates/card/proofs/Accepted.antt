-- judged-accepted   no file that some reader accepts is called refused
use Rattle.std.specs.Prelude.{ℕ, ◌<◌, List, eqb}
use Rattle.std.proofs.Math.Path.{◌≡◌}
use Rattle.std.proofs.Common.{sym, ◌∙◌}
use Rattle.std.proofs.lemmas.Bool.{false≢true}
use Rattle.std.proofs.Math.ListN.{get_or}
use Rattle.logic.specs.Cases.{cases}
use Rattle.fields.specs.Numbers.{be32}
use Rattle.sidheader.specs.Fields.{psid, rsid}
use Rattle.sid.specs.declared.Kind.TheVariants.{Psid, Rsid}
use Rattle.sid.specs.Answers.{sid_outcome}
use Rattle.sap.specs.FirstLine.{first_line}
use Rattle.sap.specs.Answers.{sap_outcome}
use Rattle.sap.specs.Laws.{accepted-first-line}
use Rattle.mus.specs.Song.{mus_outcome}
use Rattle.card.specs.Judging.{judged}
use Rattle.card.specs.Laws.{never, tune-accepted, sap-accepted, song-accepted, alone, no-tune, no-psid, no-rsid, magic-right, is_accepted, some_accepts}

-- A file whose cells 2 and 3 are bytes is judged an accepted one exactly when one of the three readers
-- accepts it: no file that some reader accepts is called refused.
pub judged-accepted : (f : List ℕ) → get_or f 2 0 < 256 → get_or f 3 0 < 256 → is_accepted (judged f) ≡ some_accepts f
judged-accepted f low high =
    cases (eqb (be32 f 0) psid)
    (λ p. let no = alone f psid (λ b. (no-tune f b).0) (λ s e. no-psid f s e low high) p in
    rw (p, no.0, no.1) (tune-accepted Psid (sid_outcome f)))
    (λ p. cases (eqb (be32 f 0) rsid)
    (λ r. let no = alone f rsid (λ b. (no-tune f b).1) (λ s e. no-rsid f s e low high) r in
    rw (p, r, no.0, no.1) (tune-accepted Rsid (sid_outcome f)))
    (λ r. let no = never (sid_outcome f) (λ h e. magic-right f h e p r) in
    cases (first_line f) (λ b. rw (p, r, b, no) (sap-accepted (sap_outcome f) (mus_outcome f)))
    (λ b. rw (p, r, b, no, never (sap_outcome f) (λ h e. false≢true (sym b ∙ accepted-first-line f h e))) (song-accepted (mus_outcome f)))))
