-- docs/DECISIONS.md, 'What kind a file is': by the file's bytes alone.
-- Judgement     what a file is, and whether it is accepted: with what it says of itself, or with the number
--               and the place of its refusal
-- judgement_of   what an answer says
-- as_tune        a file that begins with PSID or RSID: what document 01, 'PSID and RSID', answers
-- as_sap         a file that begins with `SAP` CR LF: what the SAP reader answers, but a song where only the
--               MUS reader accepts it
-- as_song        any other file: a song where 21 to 24 do not apply to it as a MUS song, and else neither
-- judged        a file
use Rattle.std.specs.Prelude.{ℕ, List, cond, eqb, leb}
use Rattle.refusals.specs.declared.Reason.TheVariants.{VoicesPastFile}
use Rattle.refusals.specs.Numbers.{Outcome, number_of}
use Rattle.refusals.specs.Numbers.Outcome.{accepted, refused}
use Rattle.fields.specs.Numbers.{be32}
use Rattle.sidheader.specs.Fields.{psid, rsid}
use Rattle.sid.specs.declared.Kind.{Kind}
use Rattle.sid.specs.declared.Kind.TheVariants.{Psid, Rsid}
use Rattle.sid.specs.declared.Header.{Header}
use Rattle.sid.specs.Answers.{sid_outcome}
use Rattle.sapheader.specs.declared.Header.{Header as SapHeader}
use Rattle.sap.specs.FirstLine.{first_line}
use Rattle.sap.specs.Answers.{sap_outcome}
use Rattle.mus.specs.declared.Song.{Song}
use Rattle.mus.specs.Song.{mus_outcome}
use Rattle.card.specs.declared.Judged.{Judged}
use Rattle.card.specs.declared.Judged.TheVariants as answer

pub data Judgement : Type 0 where
  tune : Header → Judgement
  refused_tune : Kind → ℕ → ℕ → Judgement
  sap : SapHeader → Judgement
  refused_sap : ℕ → ℕ → Judgement
  song : Song → Judgement
  refused_song : ℕ → ℕ → Judgement
  neither : ℕ → ℕ → Judgement

abbrev pub judgement_of : Judged → Judgement
judgement_of (answer.Tune h) = tune h
judgement_of (answer.RefusedTune k x) = refused_tune k (number_of x.reason) x.place
judgement_of (answer.Sap h) = sap h
judgement_of (answer.RefusedSap x) = refused_sap (number_of x.reason) x.place
judgement_of (answer.Song s) = song s
judgement_of (answer.RefusedSong x) = refused_song (number_of x.reason) x.place
judgement_of (answer.Neither x) = neither (number_of x.reason) x.place

abbrev pub as_tune : Kind → Outcome Header → Judgement
as_tune kind (accepted h) = tune h
as_tune kind (refused number place) = refused_tune kind number place

abbrev pub as_sap : Outcome SapHeader → Outcome Song → Judgement
as_sap (accepted h) mus = sap h
as_sap (refused number place) (accepted s) = song s
as_sap (refused number place) (refused musNumber musPlace) = refused_sap number place

abbrev pub as_song : Outcome Song → Judgement
as_song (accepted s) = song s
as_song (refused number place) = cond (leb number (number_of VoicesPastFile)) (neither number place) (refused_song number place)

abbrev pub judged : List ℕ → Judgement
judged f =
    cond (eqb (be32 f 0) psid) (as_tune Psid (sid_outcome f))
    (cond (eqb (be32 f 0) rsid) (as_tune Rsid (sid_outcome f))
    (cond (first_line f) (as_sap (sap_outcome f) (mus_outcome f)) (as_song (mus_outcome f))))
