-- The earlier reader, that of the first release, before request (ii): the definitions of today with one other
-- number. The rows 1nnn of DEF and CAL began at 1 then, so that phrase 16 had no pair; Table.antt
-- holds these rows to the table that the first release had. No code has this.
-- meaning_before    a pair's meaning, or 27 or 28, by the earlier table
-- spelling_before   a meaning's two bytes, or 43, by the earlier writer
-- pairs_before      the stored pairs of a voice; with it song_by, asked_by and listing_by are the earlier
--                  answers
-- sixteen          the two pairs that were unassigned and are not now: 01 83, DEF 16, and 01 8B, CAL 16
-- Without          none of the stored pairs of a voice is one of the two
-- WithoutSixteen   none of the stored pairs of a file's three voices is one of the two
-- AreBytes         every number of a file is a byte
use Rattle.std.specs.Prelude.{ℕ, ◌<◌, ◌≡◌, Bool, false, ◌&&◌, ◌||◌, List, [], ◌∷◌, eqb}
use Rattle.fields.specs.Parts.{part_of}
use Rattle.meaning.specs.declared.Meaning.{Meaning}
use Rattle.meaning.specs.declared.Bytes.{Bytes}
use Rattle.refusals.specs.Numbers.{Outcome}
use Rattle.pair.specs.Pairs.{meaning_from, spelling_from}
use Rattle.container.specs.Layout.{layout_of}
use Rattle.bodies.specs.Voice.{Reader, pairs_by}

abbrev pub meaning_before : ℕ → ℕ → Outcome Meaning
meaning_before a b = meaning_from 1 a b

abbrev pub spelling_before : Meaning → Outcome Bytes
spelling_before m = spelling_from 1 m

unfoldable pub pairs_before : Reader
pairs_before bs = pairs_by meaning_before bs

abbrev pub sixteen : ℕ → ℕ → Bool
sixteen a b = eqb a 0x01 && (eqb b 0x83 || eqb b 0x8B)

unfoldable pub Without : List ℕ → Type 0
Without [] = Unit
Without (a ∷ []) = Unit
Without (a ∷ b ∷ bs) = (sixteen a b ≡ false) × Without bs

pub record WithoutSixteen (f : List ℕ) : Type 0 where
  pub voice1 : Without (part_of f (layout_of f).voice1)
  pub voice2 : Without (part_of f (layout_of f).voice2)
  pub voice3 : Without (part_of f (layout_of f).voice3)

unfoldable pub AreBytes : List ℕ → Type 0
AreBytes [] = Unit
AreBytes (b ∷ bs) = (b < 256) × AreBytes bs
