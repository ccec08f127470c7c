-- Document 01, 'A pair', the second byte of a note: half-steps of the pitches that some second byte has.
-- byte_tables   a pitch that some second byte has is in the tables
-- byte_step     so its half-step is answered
-- step_range    the half-step of every pitch in the tables is -1 to 96
use Rattle.std.specs.Prelude.{◌≡◌, Bool, true, ◌&&◌, T}
use Rattle.std.proofs.Common.{subst}
use Rattle.logic.specs.Every.{every_at, true_of, all_left, all_right}
use Rattle.refusals.specs.Numbers.Outcome.{accepted}
use Rattle.meaning.specs.declared.Pitch.{Pitch}
use Rattle.meaning.specs.declared.Tone.{Tone}
use Rattle.meaning.specs.declared.Tone.TheVariants.{Rest, Sounds}
use Rattle.meaning.specs.Pitches.{in_tables, half_step, step_outcome}
use Rattle.note.specs.Reading.{tone_of}
use Rattle.pairlaws.specs.HalfSteps.{HasByte, between, tables_byte}

-- what is computed at each byte: its pitch is in the tables, and the half-step is in range
abbrev tone_test : Tone → Bool
tone_test Rest = true
tone_test (Sounds p) = in_tables p && between (half_step p)

byte-test : (p : Pitch) → HasByte p → T (in_tables p && between (half_step p))
byte-test p h = subst (λ (t : Tone). T (tone_test t)) h.sounds (every_at (λ b. tone_test (tone_of b)) 256 tt h.byte h.low)

-- A pitch that some second byte has is in the tables.
pub byte_tables : (p : Pitch) → HasByte p → in_tables p ≡ true
byte_tables p h = true_of (in_tables p) (all_left (in_tables p) (between (half_step p)) (byte-test p h))

-- The half-step of a pitch that some second byte has is answered.
pub byte_step : (p : Pitch) → HasByte p → step_outcome p ≡ accepted (half_step p)
byte_step p h = rw (byte_tables p h)

-- The half-step of every pitch in the tables is -1 to 96.
pub step_range : (p : Pitch) → in_tables p ≡ true → T (between (half_step p))
step_range p e = all_right (in_tables p) (between (half_step p)) (byte-test p (tables_byte p e))
