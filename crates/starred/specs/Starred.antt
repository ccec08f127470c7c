-- Document 01, 'Sums on the bench': every starred sum is right. One table under one statement.
-- Sum                     a pair and what it means; or a note's first byte alone, its length and tie,
--                         whatever the second byte; or a note's second byte alone, its pitch and half-step,
--                         whatever the first; or an RSID file's effective init, by its init field and load
--                         address, and what tests 1 to 13 answer, by its number
-- pitch, note             a pitch and a note of these parts
-- word                    a number as two bytes, high byte first
-- rsid_file                an RSID file of 130 bytes, BASIC clear, by its init field and load address
-- Holds                   what a sum says
-- starred                 the table, in the paper's order, 01 83 as corrected by request (ii); of RSID the
--                         effective init by the field, then by the load address where the field is 0
-- AllHold, starred_hold   each sum of the table is right
use Rattle.std.specs.Prelude.{ℕ, ◌/◌, ◌%◌, ◌≡◌, refl as ok, Bool, true, false, List, [], ◌∷◌, ◌++◌, eqb, ℤ, pos, negsuc, replicate}
use Rattle.logic.specs.Facts.{◌and◌}
use Rattle.refusals.specs.Numbers.{Outcome}
use Rattle.refusals.specs.Numbers.Outcome.{accepted, refused}
use Rattle.refusals.specs.Tests.{first_of, guarded}
use Rattle.meaning.specs.declared.Duration.{Duration}
use Rattle.meaning.specs.declared.Duration.TheVariants.{Quarter, SixtyFourth}
use Rattle.meaning.specs.declared.Shape.{Shape}
use Rattle.meaning.specs.declared.Shape.TheVariants.{Plain, DoubleDotted, Triplet}
use Rattle.meaning.specs.declared.Letter.{Letter}
use Rattle.meaning.specs.declared.Letter.TheVariants.{C, F, B}
use Rattle.meaning.specs.declared.Accidental.{Accidental}
use Rattle.meaning.specs.declared.Accidental.TheVariants.{Flat, Natural, Sharp}
use Rattle.meaning.specs.declared.Pitch.{Pitch}
use Rattle.meaning.specs.declared.Tone.{Tone}
use Rattle.meaning.specs.declared.Tone.TheVariants.{Sounds}
use Rattle.meaning.specs.declared.Meaning.{Meaning}
use Rattle.meaning.specs.declared.Meaning.TheVariants.{Note, Def, Ps, Tps, Rtp}
use Rattle.meaning.specs.Pitches.{step_outcome}
use Rattle.note.specs.Reading.{tone_of, note_of}
use Rattle.pair.specs.Pairs.{meaning_of}
use Rattle.fields.specs.Numbers.{be16, be32, le16}
use Rattle.sidheader.specs.Fields.{fields_of}
use Rattle.sidheader.specs.Payload.{payload_of, init_of}
use Rattle.sidrefusals.specs.Pages.{any_page, bad_pages}
use Rattle.sidrefusals.specs.PayloadTests.{barred_init, sid_tests}
use Rattle.sid.specs.Header.{header_of}
use Rattle.sid.specs.Acceptance.{header}

pub data Sum : Type 0 where
  means : ℕ → ℕ → Outcome Meaning → Sum
  lasts : ℕ → Duration → Shape → Bool → Sum
  sounds : ℕ → Pitch → ℤ → Sum
  rsid : ℕ → ℕ → ℕ → Outcome Unit → Sum

abbrev pitch : Letter → Accidental → ℕ → Pitch
pitch l a o = record { letter = l; accidental = a; octave = o }

abbrev note : Duration → Shape → Bool → Tone → Outcome Meaning
note d s t tone = accepted (Note (record { duration = d; shape = s; tied = t; tone = tone }))

abbrev pub word : ℕ → List ℕ
word n = n / 256 ∷ n % 256 ∷ []

abbrev pub rsid_file : ℕ → ℕ → List ℕ
rsid_file init load =
    -- $00: the letters RSID; version 2, data offset $7C, load field 0
    (0x52 ∷ 0x53 ∷ 0x49 ∷ 0x44 ∷ []) ++ word 2 ++ word 0x7C ++ word 0
    -- $0A: init; play 0, 1 song, start song 1, speed 0
    ++ word init ++ word 0 ++ word 1 ++ word 1 ++ replicate 4 0
    -- $16: three texts of zeros; $76: flags, page bytes and the last word 0
    ++ replicate 96 0 ++ replicate 6 0
    -- $7C: the load address, low byte first, and four bytes of payload
    ++ (load % 256 ∷ load / 256 ∷ []) ++ replicate 4 0

abbrev pub Holds : Sum → Type 0
-- two bytes: what they mean
Holds (means a b outcome) = meaning_of a b ≡ outcome
-- a first byte: with every second byte it is a note of this length and tie; rest or pitch is the second's
Holds (lasts a d s t) = (b : ℕ) → meaning_of a b ≡ note d s t (tone_of b)
-- a second byte: after every first byte of a note it is this pitch, and the pitch has this half-step
Holds (sounds b p step) =
    ((a : ℕ) → eqb (a % 4) 0 ≡ true
    → meaning_of a b ≡ note (note_of a b).duration (note_of a b).shape (note_of a b).tied (Sounds p))
    × (step_outcome p ≡ accepted step)
-- an RSID file: its effective init, and the number of the first of tests 1 to 13 that applies to its 130 bytes
Holds (rsid effective init load outcome) =
    ((header (rsid_file init load)).init ≡ effective)
    × (guarded (first_of (sid_tests (rsid_file init load))) (accepted tt) ≡ outcome)

abbrev pub starred : List Sum
starred =
    means 0xF0 0x94 (note Quarter DoubleDotted true (Sounds (pitch F Natural 5)))
    ∷ sounds 0x94 (pitch F Natural 5) (pos 65)
    ∷ lasts 0x20 SixtyFourth Plain false
    ∷ lasts 0x40 SixtyFourth Plain true
    ∷ lasts 0x80 SixtyFourth Triplet false
    ∷ lasts 0xA0 SixtyFourth Triplet false
    ∷ means 0x56 0xFF (accepted (Ps (negsuc 0)))
    ∷ means 0x56 0x80 (accepted (Ps (negsuc 127)))
    ∷ means 0xA6 0xA1 (accepted (Tps (negsuc 0)))
    ∷ means 0xA6 0xB1 (accepted (Tps (pos 0)))
    ∷ means 0x2E 0x53 (accepted (Rtp (negsuc 0)))
    ∷ sounds 0xF9 (pitch C Flat 0) (negsuc 0)
    ∷ sounds 0x47 (pitch B Sharp 7) (pos 96)
    ∷ means 0x6E 0xF8 (refused 28 0)
    ∷ means 0x01 0x83 (accepted (Def 16))
    ∷ rsid 0x07E8 0x07E8 0x1000 (accepted tt)
    ∷ rsid 0x9FFF 0x9FFF 0x1000 (accepted tt)
    ∷ rsid 0x07E7 0x07E7 0x1000 (refused 12 0)
    ∷ rsid 0xA000 0xA000 0x1000 (refused 12 0)
    ∷ rsid 0x07E8 0 0x07E8 (accepted tt)
    ∷ rsid 0x9FFF 0 0x9FFF (accepted tt)
    ∷ rsid 0xA000 0 0xA000 (refused 12 0)
    ∷ []

abbrev pub AllHold : List Sum → Type 0
AllHold [] = Unit
AllHold (s ∷ ss) = Holds s × AllHold ss

-- 'The starred cases stand as one table under a single proved statement': each row of the table holds.
pub starred_hold : AllHold starred
unfolding be16 be32 le16 sid_tests fields_of payload_of header_of init_of barred_init bad_pages any_page
starred_hold =
    ok
    and (λ a h. rw h, ok)
    and (λ b. ok)
    and (λ b. ok)
    and (λ b. ok)
    and (λ b. ok)
    and ok
    and ok
    and ok
    and ok
    and ok
    and (λ a h. rw h, ok)
    and (λ a h. rw h, ok)
    and ok
    and ok
    and (ok, ok)
    and (ok, ok)
    and (ok, ok)
    and (ok, ok)
    and (ok, ok)
    and (ok, ok)
    and (ok, ok)
    and tt
