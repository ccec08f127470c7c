-- Document 01, 'A pair', the second byte of a note: a pitch has a half-step exactly when some second byte
-- has the pitch, and all half-steps lie between -1 and 96.
-- HasByte                    a pitch that some second byte has
-- between                    '-1 to 96'
-- tables_byte                a pitch in the tables has such a byte
-- no-byte-step               the answer is 43 for every pitch that no second byte has
-- The converses, and that the half-step of every pitch in the tables is -1 to 96, stand in
-- proofs/HalfSteps.antt.
use Rattle.std.specs.Prelude.{ℕ, ◌<◌, ◌≡◌, Bool, true, ◌&&◌, ℤ, pos, negsuc}
use Rattle.std.specs.Int.Signed.{le_z}
use Rattle.logic.specs.Cases.{cases}
use Rattle.refusals.specs.Numbers.Outcome.{refused}
use Rattle.meaning.specs.declared.Pitch.{Pitch}
use Rattle.meaning.specs.declared.Tone.TheVariants.{Sounds}
use Rattle.meaning.specs.Pitches.{in_tables, step_outcome}
use Rattle.note.specs.Reading.{tone_of}
use Rattle.note.specs.Laws.{pitch_byte}
use Rattle.note.proofs.Back.{pitch_reads}

pub record HasByte (p : Pitch) : Type 0 where
  pub byte : ℕ
  pub low : byte < 256
  pub sounds : tone_of byte ≡ Sounds p

abbrev pub between : ℤ → Bool
between z = le_z (negsuc 0) z && le_z z (pos 96)

-- A pitch in the tables has a second byte.
pub tables_byte : (p : Pitch) → in_tables p ≡ true → HasByte p
tables_byte p e = let reads = pitch_reads p e in record { byte = pitch_byte p; low = reads.1; sounds = reads.0 }

-- For a pitch that no second byte has the answer is 43.
pub no-byte-step : (p : Pitch) → (HasByte p → ⊥) → step_outcome p ≡ refused 43 0
no-byte-step p none = cases (in_tables p) (λ e. absurd (none (tables_byte p e))) (λ e. rw e)
