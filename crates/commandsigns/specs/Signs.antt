-- Document 01, 'A pair', the sentence 'Signed', with source 004's rows for TPS and RTP.
-- out_of_range             28
-- signed_byte             'P-S, F-S, AUT whole byte'
-- detuning_of             'DTN 11 bits, less 2,048 when bit 4 is set'
-- sca_outcome             'SCA -7 to 7'
-- tps_value, tps_outcome   'TPS by 004, high nibble above 11 out of range'
-- rtp_value, rtp_outcome   'RTP is 12 × (3 - low three bits) + (high five bits - 11); out of range if those
--                        five bits exceed 22 or the result leaves -47 to 47'
-- jif_outcome             'JIF ten bits, raw above 823 less 1,024 (house), raw 758 to 823 out of range'
use Rattle.std.specs.Prelude.{ℕ, ◌+◌, ◌*◌, ◌-◌, ◌/◌, ◌%◌, ◌&&◌, cond, eqb, leb, ltb, ℤ, pos, negsuc, ◌+ℤ◌, ◌*ℤ◌}
use Rattle.std.proofs.Math.IntN.{sub_ℕ}
use Rattle.std.specs.Int.Signed.{le_z}
use Rattle.meaning.specs.declared.Meaning.{Meaning}
use Rattle.meaning.specs.declared.Meaning.TheVariants.{Sca, Tps, Rtp, Jif}
use Rattle.refusals.specs.declared.Reason.TheVariants.{ValueRange}
use Rattle.refusals.specs.Numbers.{Outcome, number_of}
use Rattle.refusals.specs.Numbers.Outcome.{accepted, refused}

abbrev pub out_of_range : Outcome Meaning
out_of_range = refused (number_of ValueRange) 0

abbrev pub signed_byte : ℕ → ℤ
signed_byte b = sub_ℕ b (cond (ltb b 128) 0 256)

abbrev pub detuning_of : ℕ → ℕ → ℤ
detuning_of n bit4 = sub_ℕ n (cond (eqb bit4 1) 2048 0)

abbrev pub sca_outcome : ℕ → Outcome Meaning
sca_outcome b =
    cond (le_z (negsuc 6) (signed_byte b) && le_z (signed_byte b) (pos 7)) (accepted (Sca (signed_byte b))) out_of_range

-- 'hhhh ooos': for + the octaves are 7 minus ooo and hhhh more half-steps, for - ooo octaves and 11 minus
-- hhhh
abbrev pub tps_value : ℕ → ℤ
tps_value b =
    cond (eqb (b % 2) 0)
    (sub_ℕ (12 * (7 - b / 2 % 8) + b / 16) 0)
    (sub_ℕ 0 (12 * (b / 2 % 8) + (11 - b / 16)))

abbrev pub tps_outcome : ℕ → Outcome Meaning
tps_outcome b = cond (ltb 11 (b / 16)) out_of_range (accepted (Tps (tps_value b)))

abbrev pub rtp_value : ℕ → ℤ
rtp_value b = pos 12 *ℤ sub_ℕ 3 (b % 8) +ℤ sub_ℕ (b / 8) 11

abbrev pub rtp_outcome : ℕ → Outcome Meaning
rtp_outcome b =
    cond (leb (b / 8) 22 && le_z (negsuc 46) (rtp_value b) && le_z (rtp_value b) (pos 47)) (accepted (Rtp (rtp_value b))) out_of_range

abbrev pub jif_outcome : ℕ → Outcome Meaning
jif_outcome raw =
    cond (leb raw 757) (accepted (Jif (sub_ℕ raw 0))) (cond (leb raw 823) out_of_range (accepted (Jif (sub_ℕ raw 1024))))
