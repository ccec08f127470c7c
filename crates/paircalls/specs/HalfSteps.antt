-- docs/INTERFACE.md, 'The code of a meaning': the half-step of the note that a code is of, as a number.
-- step_number        a half-step, -1 to 96, as a number: the half-step + 1
-- no_step            43 at place 0: there is no half-step
-- step_of_tone        a rest has none; a pitch has its own
-- step_of_bytes       a command has none; a note, 'First byte with low bits 00', has that of its second byte
-- half_step_outcome   of a code: the writer's refusal, else of the pair that is written for it
-- number_step       the number of a half-step from -1 on is the half-step + 1
-- codes-stepped     some codes, worked out by hand
use Rattle.std.specs.Prelude.{ℕ, zero, suc, ◌+◌, ◌%◌, ◌≡◌, refl, cond, T, eqb, ℤ, pos, negsuc, ◌+ℤ◌}
use Rattle.std.proofs.Common.{arith, leb→le}
use Rattle.std.specs.Int.Signed.{le_z}
use Rattle.refusals.specs.declared.Reason.TheVariants.{NoPair}
use Rattle.refusals.specs.Numbers.{Outcome, number_of}
use Rattle.refusals.specs.Numbers.Outcome.{accepted, refused}
use Rattle.refusals.specs.Tests.{and_then}
use Rattle.meaning.specs.declared.Tone.{Tone}
use Rattle.meaning.specs.declared.Tone.TheVariants.{Rest, Sounds}
use Rattle.meaning.specs.declared.Bytes.{Bytes}
use Rattle.meaning.specs.Pitches.{step_outcome}
use Rattle.note.specs.Reading.{tone_of}
use Rattle.decoding.specs.Decoding.{decoded}
use Rattle.paircalls.specs.Written.{written}

abbrev pub step_number : ℤ → ℕ
step_number (pos n) = n + 1
step_number (negsuc n) = 0

abbrev pub no_step : Outcome ℕ
no_step = refused (number_of NoPair) 0

abbrev pub step_of_tone : Tone → Outcome ℕ
step_of_tone Rest = no_step
step_of_tone (Sounds p) = and_then (step_outcome p) (λ z. accepted (step_number z))

abbrev pub step_of_bytes : Bytes → Outcome ℕ
step_of_bytes b = cond (eqb (b.first % 4) 0) (step_of_tone (tone_of b.second)) no_step

unfoldable pub half_step_outcome : ℕ → Outcome ℕ
half_step_outcome code = and_then (written code) (λ b. step_of_bytes b)

-- The number of a half-step that is -1 or more is, as an integer, the half-step + 1.
pub number_step : (z : ℤ) → T (le_z (negsuc 0) z) → pos (step_number z) ≡ z +ℤ pos 1
number_step (pos n) t = refl
number_step (negsuc zero) t = refl
number_step (negsuc (suc n)) t = absurd (omega (arith, leb→le (suc n) 0 t))

-- C flat 0 has the half-step -1 and B sharp 7 has 96, both 64ths; F natural 5 has 65, in a double dotted
-- quarter with a tie; C natural 4 has 48, as an absolute pitch. With a tie it is the code of no pair.
pub codes-stepped : (half_step_outcome 0x16400CF0 ≡ accepted 0) × (half_step_outcome 0x16400B17 ≡ accepted 97)
    × (half_step_outcome 0x10421F05 ≡ accepted 66) × (half_step_outcome 0x1AB00C04 ≡ accepted 49)
    × (half_step_outcome 0x1AB01C04 ≡ refused 43 0)
unfolding half_step_outcome written decoded
codes-stepped = (refl, refl, refl, refl, refl)
