-- Every file that a reader accepts is judged so: no tune, no SAP file and no song is lost by the way its kind
-- is found. And no two answers have the same judgement.
-- tune-judged   a file that is accepted as PSID or RSID
-- no-tune       a file that begins with `SAP` CR LF begins with neither PSID nor RSID
-- sap-judged    a file that is accepted as SAP, whatever the MUS reader answers
-- song-judged   a file that is accepted as MUS and not as SAP: begun with PSID or RSID, the length of its
--               first voice would be odd (23)
-- accepts, is_accepted, some_accepts   whether a reader accepts, a judgement is of an accepted file, and one
--                                    of the three readers accepts a file
-- That a file is judged an accepted one exactly when one of them accepts it stands in proofs/Accepted.antt.
-- judged-once   two answers of one judgement are one answer
-- by_head, by_head_lem, by_outcomes   the same by the tests 21 to 24 alone (`head_outcome`), as the code goes
use Rattle.std.specs.Prelude.{ℕ, ◌+◌, ◌*◌, ◌<◌, ◌%◌, refl, Bool, true, false, cond, ◌&&◌, ◌||◌, List, eqb, leb}
use Rattle.std.specs.Result.{result_unwrap_or}
use Rattle.std.proofs.Math.Path.{◌≡◌, subst}
use Rattle.std.proofs.Common.{sym, ap, ◌∙◌, lit<}
use Rattle.std.proofs.lemmas.Bool.{false≢true}
use native.Mathlib.Omega.{arith}
use Rattle.std.proofs.Math.ListN.{get_or}
use borrow.Author.Tests.{eqb-true, eqb-false, ne_eqb, le-leb, lt-leb}
use Rattle.logic.specs.Cases.{cases}
use Rattle.logic.specs.Truth.{both, neither}
use Rattle.refusals.specs.declared.Reason.TheVariants.{TooShort}
use Rattle.refusals.specs.declared.Refusal.{Refusal}
use Rattle.refusals.specs.Numbers.{Outcome, number_of, reason_numbered}
use Rattle.refusals.specs.Numbers.Outcome.{accepted, refused}
use Rattle.refusals.specs.Laws.{numbered-number}
use Rattle.fields.specs.Numbers.{be16, be32, le16}
use Rattle.sidheader.specs.Fields.{psid, rsid, fields_of}
use Rattle.sidrefusals.specs.PayloadTests.{sid_tests}
use Rattle.sid.specs.declared.Kind.{Kind}
use Rattle.sid.specs.declared.Header.{Header}
use Rattle.sid.specs.Answers.{sid_outcome}
use Rattle.sid.specs.Acceptance.{accepted_none}
use Rattle.sapheader.specs.declared.Header.{Header as SapHeader}
use Rattle.sap.specs.FirstLine.{first_line}
use Rattle.sap.specs.Answers.{sap_outcome}
use Rattle.sap.specs.Laws.{accepted-first-line}
use Rattle.container.specs.declared.Voices.{Voices}
use Rattle.container.specs.Head.{head_of, bad_length, head_outcome}
use Rattle.container.specs.Layout.{container_tests}
use Rattle.container.specs.ByNumber.{head-number}
use Rattle.mus.specs.declared.Song.{Song}
use Rattle.mus.specs.Song.{mus_outcome}
use Rattle.mus.specs.Acceptance.{accepted-clear}
use Rattle.mus.specs.Laws.{head-refused}
use Rattle.mus.specs.ByNumber.{Above}
use Rattle.mus.proofs.ByNumber.{head-above}
use Rattle.card.specs.declared.Judged.{Judged}
use Rattle.card.specs.declared.Judged.TheVariants as answer
use Rattle.card.specs.Judging as judging
use Rattle.card.specs.Judging.{Judgement, judgement_of, as_tune, as_sap, as_song, judged}

-- an accepted tune begins with PSID or RSID
pub magic-right : (f : List ℕ) (h : Header) → sid_outcome f ≡ accepted h → eqb (be32 f 0) psid ≡ false → eqb (be32 f 0) rsid ≡ false → ⊥
unfolding sid_tests fields_of
magic-right f h e p r = false≢true (sym (rw (p, r) at (accepted_none f h e).1.0))

-- A file that is accepted as PSID or RSID is judged a tune, with its header.
pub tune-judged : (f : List ℕ) (h : Header) → sid_outcome f ≡ accepted h → judged f ≡ judging.Judgement.tune h
tune-judged f h e =
    rw e
    (cases (eqb (be32 f 0) psid) (λ p. rw p) (λ p. cases (eqb (be32 f 0) rsid) (λ r. rw (p, r)) (λ r. absurd (magic-right f h e p r))))

-- the letters SAP and CR as one number
sap-letters : (f : List ℕ) → first_line f ≡ true → be32 f 0 ≡ 0x5341500D
unfolding first_line be32 be16
sap-letters f e =
    let is : ℕ → ℕ → Bool = λ k b. eqb (get_or f k 0) b in
    let p4 = both (is 0 0x53 && is 1 0x41 && is 2 0x50 && is 3 0x0D) (is 4 0x0A) e in
    let p3 = both (is 0 0x53 && is 1 0x41 && is 2 0x50) (is 3 0x0D) p4.0 in
    let p2 = both (is 0 0x53 && is 1 0x41) (is 2 0x50) p3.0 in
    let p1 = both (is 0 0x53) (is 1 0x41) p2.0 in
    rw (eqb-true (get_or f 0 0) 0x53 p1.0, eqb-true (get_or f 1 0) 0x41 p1.1, eqb-true (get_or f 2 0) 0x50 p2.1, eqb-true (get_or f 3 0) 0x0D p3.1)

-- A file that begins with `SAP` CR LF begins neither with PSID nor with RSID: no file is accepted both as SAP
-- and as a tune.
pub no-tune : (f : List ℕ) → first_line f ≡ true → (eqb (be32 f 0) psid ≡ false) × (eqb (be32 f 0) rsid ≡ false)
no-tune f e = rw (sap-letters f e) (refl, refl)

-- A file that is accepted as SAP is judged a SAP file, with its header, whatever the MUS reader answers.
pub sap-judged : (f : List ℕ) (h : SapHeader) → sap_outcome f ≡ accepted h → judged f ≡ judging.Judgement.sap h
sap-judged f h e =
    let line = accepted-first-line f h e in
    let no = no-tune f line in
    rw (no.0, no.1, line, e)

-- the low half of a number of 32 bits
low_half : (a b c d : ℕ) → b < 65536 → d < 65536 → a * 65536 + b ≡ c * 65536 + d → b ≡ d
low_half a b c d h g e = omega arith

module _ (f : List ℕ) (s : Song) (e : mus_outcome f ≡ accepted s) (low : get_or f 2 0 < 256) (high : get_or f 3 0 < 256) where
  -- the first voice has an even number of bytes
  even : le16 f 2 % 2 ≡ 0
  unfolding container_tests head_of
  even =
      let none = (accepted-clear f s e).0.container.1.1.0 in
      let len = (neither (bad_length (le16 f 2)) (bad_length (le16 f 4)) (neither _ (bad_length (le16 f 6)) none).0).0 in
      let odd = eqb-false (le16 f 2 % 2) 1 (neither (eqb (le16 f 2) 0) (eqb (le16 f 2 % 2) 1) len).1 in
      omega arith

  -- the bytes 2 and 3 are not the letters I and D: the length would be odd
  no-letters : get_or f 2 0 * 256 + get_or f 3 0 ≡ 0x4944 → ⊥
  unfolding le16
  no-letters q =
      let i : get_or f 2 0 ≡ 0x49 = omega (arith, q, low, high) in
      let d : get_or f 3 0 ≡ 0x44 = omega (arith, q, i) in
      let length : get_or f 2 0 + get_or f 3 0 * 256 ≡ 0x4449 = omega (arith, i, d) in
      let odd : ◌≡◌ {A = ℕ} 1 0 = subst (λ (n : ℕ). n % 2 ≡ 0) length even in
      omega (arith, odd)

  pub no-psid : be32 f 0 ≡ psid → ⊥
  unfolding be32 be16
  no-psid q = no-letters (low_half (get_or f 0 0 * 256 + get_or f 1 0) (get_or f 2 0 * 256 + get_or f 3 0) 0x5053 0x4944 (omega (arith, low, high)) (lit< tt) q)

  pub no-rsid : be32 f 0 ≡ rsid → ⊥
  unfolding be32 be16
  no-rsid q = no-letters (low_half (get_or f 0 0 * 256 + get_or f 1 0) (get_or f 2 0 * 256 + get_or f 3 0) 0x5253 0x4944 (omega (arith, low, high)) (lit< tt) q)

  -- A file accepted as MUS and refused as SAP whose cells 2 and 3 are bytes is judged a song, with what it
  -- says of itself.
  pub song-judged : (n p : ℕ) → sap_outcome f ≡ refused n p → judged f ≡ judging.Judgement.song s
  song-judged n p x =
      rw (ne_eqb (be32 f 0) psid no-psid, ne_eqb (be32 f 0) rsid no-rsid, e) (cases (first_line f) (λ b. rw (b, x)) (λ b. rw b))

abbrev pub accepts : {A : Type 0} → Outcome A → Bool
accepts (accepted a) = true
accepts (refused number place) = false

abbrev pub is_accepted : Judgement → Bool
is_accepted (judging.Judgement.tune h) = true
is_accepted (judging.Judgement.refused_tune k n p) = false
is_accepted (judging.Judgement.sap h) = true
is_accepted (judging.Judgement.refused_sap n p) = false
is_accepted (judging.Judgement.song s) = true
is_accepted (judging.Judgement.refused_song n p) = false
is_accepted (judging.Judgement.neither n p) = false

abbrev pub some_accepts : List ℕ → Bool
some_accepts f = accepts (sid_outcome f) || accepts (sap_outcome f) || accepts (mus_outcome f)

-- an outcome that is not accepted with any value
pub never : {A : Type 0} (o : Outcome A) → ((a : A) → o ≡ accepted a → ⊥) → accepts o ≡ false
never (accepted a) h = absurd (h a refl)
never (refused n p) h = refl

pub tune-accepted : (k : Kind) (o : Outcome Header) → is_accepted (as_tune k o) ≡ accepts o || false || false
tune-accepted k (accepted h) = refl
tune-accepted k (refused n p) = refl

pub sap-accepted : (o : Outcome SapHeader) (m : Outcome Song) → is_accepted (as_sap o m) ≡ accepts o || accepts m
sap-accepted (accepted h) m = refl
sap-accepted (refused n p) (accepted s) = refl
sap-accepted (refused n p) (refused k q) = refl

pub song-accepted : (m : Outcome Song) → is_accepted (as_song m) ≡ accepts m
song-accepted (accepted s) = refl
song-accepted (refused n p) = go (leb n 24)
  where
    go : (b : Bool) → is_accepted (cond b (judging.Judgement.neither n p) (judging.Judgement.refused_song n p)) ≡ false
    go true = refl
    go false = refl

-- a file that begins with PSID or RSID is accepted neither as SAP nor as MUS
pub alone : (f : List ℕ) (magic : ℕ) → (first_line f ≡ true → eqb (be32 f 0) magic ≡ false) → ((s : Song) → mus_outcome f ≡ accepted s → be32 f 0 ≡ magic → ⊥)
    → eqb (be32 f 0) magic ≡ true
    → (accepts (sap_outcome f) ≡ false) × (accepts (mus_outcome f) ≡ false)
alone f magic line song e = (
  never (sap_outcome f) (λ h a. false≢true (sym (line (accepted-first-line f h a)) ∙ e)),
  never (mus_outcome f) (λ s a. song s a (eqb-true (be32 f 0) magic e)),
)

-- the refusal of a number and a place
abbrev refusal_of : ℕ → ℕ → Refusal
refusal_of n p = record { reason = result_unwrap_or (reason_numbered n) TooShort; place = p }

refusal_back : (x : Refusal) → refusal_of (number_of x.reason) x.place ≡ x
refusal_back x =
    let reason : result_unwrap_or (reason_numbered (number_of x.reason)) TooShort ≡ x.reason = rw (numbered-number x.reason) in
    λ i. record { reason = reason i; place = x.place }

-- the answer that a judgement is of
abbrev answer_of : Judgement → Judged
answer_of (judging.Judgement.tune h) = answer.Tune h
answer_of (judging.Judgement.refused_tune k n p) = answer.RefusedTune k (refusal_of n p)
answer_of (judging.Judgement.sap h) = answer.Sap h
answer_of (judging.Judgement.refused_sap n p) = answer.RefusedSap (refusal_of n p)
answer_of (judging.Judgement.song s) = answer.Song s
answer_of (judging.Judgement.refused_song n p) = answer.RefusedSong (refusal_of n p)
answer_of (judging.Judgement.neither n p) = answer.Neither (refusal_of n p)

answer_back : (a : Judged) → answer_of (judgement_of a) ≡ a
answer_back (answer.Tune h) = refl
answer_back (answer.RefusedTune k x) = ap (answer.RefusedTune k) (refusal_back x)
answer_back (answer.Sap h) = refl
answer_back (answer.RefusedSap x) = ap answer.RefusedSap (refusal_back x)
answer_back (answer.Song s) = refl
answer_back (answer.RefusedSong x) = ap answer.RefusedSong (refusal_back x)
answer_back (answer.Neither x) = ap answer.Neither (refusal_back x)

-- Two answers that have one judgement are one answer.
pub judged-once : (a b : Judged) → judgement_of a ≡ judgement_of b → a ≡ b
judged-once a b e = sym (answer_back a) ∙ ap answer_of e ∙ answer_back b

abbrev pub by_head : Outcome Voices → Outcome Song → Judgement
by_head (refused number place) o = judging.Judgement.neither number place
by_head (accepted v) (accepted s) = judging.Judgement.song s
by_head (accepted v) (refused number place) = judging.Judgement.refused_song number place

-- The head's refusal, and else the reader's outcome, is the judgement of a file that begins neither as a tune
-- nor with `SAP` CR LF.
pub by_head_lem : (f : List ℕ) → by_head (head_outcome f) (mus_outcome f) ≡ as_song (mus_outcome f)
by_head_lem f = go (head_outcome f) refl
  where
    above : (v : Voices) (o : Outcome Song) → Above 24 o → by_head (accepted v) o ≡ as_song o
    above v (accepted s) h = refl
    above v (refused n p) h = rw (lt-leb n 24 h)

    go : (o : Outcome Voices) → head_outcome f ≡ o → by_head o (mus_outcome f) ≡ as_song (mus_outcome f)
    go (accepted v) e = above v (mus_outcome f) (head-above f v e)
    go (refused n p) e = rw (head-refused f n p e, le-leb n 24 (head-number f n p e))

-- So for what the code has asked for.
pub by_outcomes : (f : List ℕ) {h : Outcome Voices} {o : Outcome Song} → h ≡ head_outcome f → o ≡ mus_outcome f → by_head h o ≡ as_song (mus_outcome f)
by_outcomes f eh eo = rw (eh, eo) (by_head_lem f)
