-- A part of a tune is a part of the lent bytes, and of an accepted file's tune it is the part that the papers
-- name.
-- place_span     a part lies where the header says
-- shown_piece    of an accepted file, each part is the one that the file's own header names
-- texts_shown    of an accepted file, the texts are the paper's: the first 31 bytes, cut before the first
--                zero
-- payload_shown  and the payload has as many bytes as its header says
-- same_bytes     where the file lies in memory says nothing: of the same bytes and the same header the parts
--                are the same
use Rattle.std.specs.Prelude.{ℕ, ◌≡◌, refl, List, length}
use Rattle.std.proofs.Common.{subst}
use Rattle.std.specs.Borrow.{Bor}
use Rattle.fields.specs.Parts.{part_of}
use Rattle.refusals.specs.Numbers.Outcome.{accepted}
use Rattle.sid.specs.declared.Header.{Header}
use Rattle.tune.specs.declared.Piece.{Piece}
use Rattle.tune.specs.declared.Piece.TheVariants.{Title, Author, Released, Payload}
use Rattle.sid.specs.Header.{text_at, header_of}
use Rattle.sid.specs.Answers.{sid_outcome}
use Rattle.sid.specs.Acceptance.{header, accepted-header}
use Rattle.sid.specs.Laws.{text-part, payload-whole}
use Rattle.tune.specs.Tune.{span_of, tune_of, place_in}

-- A part of a tune lies where the header says.
pub place_span : (s : Bor (List ℕ)) (h : Header) (p : Piece) → place_in (tune_of s h) p ≡ span_of h p
place_span s h Title = refl
place_span s h Author = refl
place_span s h Released = refl
place_span s h Payload = refl

-- Of an accepted file, each part of its tune is the one that the file's own header names.
pub shown_piece : (s : Bor (List ℕ)) (h : Header) (p : Piece) → sid_outcome s.now ≡ accepted h
    → part_of s.now (place_in (tune_of s h) p) ≡ part_of s.now (span_of (header s.now) p)
shown_piece s h p e = rw (place_span s h p, accepted-header s.now h e)

-- Of an accepted file, the texts are the paper's: the first 31 bytes, cut before the first zero among them.
pub texts_shown : (s : Bor (List ℕ)) (h : Header) → sid_outcome s.now ≡ accepted h
    → (part_of s.now (tune_of s h).title ≡ text_at s.now 0x16) × (part_of s.now (tune_of s h).author ≡ text_at s.now 0x36) × (part_of s.now (tune_of s h).released ≡ text_at s.now 0x56)
unfolding header_of
texts_shown s h e =
    subst (λ (k : Header). (part_of s.now k.title ≡ text_at s.now 0x16) × (part_of s.now k.author ≡ text_at s.now 0x36) × (part_of s.now k.released ≡ text_at s.now 0x56))
    (accepted-header s.now h e) (text-part s.now 0x16, text-part s.now 0x36, text-part s.now 0x56)

-- Of an accepted file, the payload has as many bytes as its header says.
pub payload_shown : (s : Bor (List ℕ)) (h : Header) → sid_outcome s.now ≡ accepted h → length (part_of s.now (tune_of s h).payload) ≡ h.payload.len
payload_shown s h e = subst (λ (k : Header). length (part_of s.now k.payload) ≡ k.payload.len) (accepted-header s.now h e) (payload-whole s.now)

-- Where the file lies in memory says nothing: of the same bytes and the same header the parts are the same.
pub same_bytes : (s s' : Bor (List ℕ)) (h : Header) (p : Piece) → s.now ≡ s'.now
    → part_of (tune_of s h).file.now (place_in (tune_of s h) p) ≡ part_of (tune_of s' h).file.now (place_in (tune_of s' h) p)
same_bytes s s' h p e = rw (place_span s h p, place_span s' h p, e)
