-- What is refused of two bytes is 27 or 28, at place 0.
-- pair-refused   so for every two bytes
use Prim.Native.Nat.{ℕ, ◌+◌, ◌*◌, ◌/◌, ◌%◌}
use mathlib.Core.Path.{refl}
use mathlib.Core.Logic.{inl, inr}
use mathlib.Core.Bool.{Bool, true, false, ◌&&◌, cond}
use lib.Dec.{eqb, leb, ltb}
use lib.IntN.{pos, negsuc, sub_ℕ}
use lib.Signed.{le_z}
use Rattle.refusals.specs.Numbers.{Outcome}
use Rattle.refusals.specs.Numbers.Outcome.{accepted}
use Rattle.meaning.specs.declared.Meaning.{Meaning}
use Rattle.meaning.specs.declared.Meaning.TheVariants as M
use Rattle.note.specs.Reading.{note_of}
use Rattle.commandtable.specs.Codes.{Command, DCY, RUP, CAL, BMP, FLT, RNG, SNC, F-X, DEF, ATK, SUS, LFO, P&V, RDN, WAV}
use Rattle.commandtable.specs.Codes.{F-M, RLS, RES, 3-0, VOL, TAL, END, HLT, SRC, DST, none, second_means, second_outcome}
use Rattle.commandtable.specs.Codes as codes
use Rattle.commandtable.specs.Patterns.{O, I, n, byte, number}
use Rattle.commandsigns.specs.Signs.{out_of_range, signed_byte, sca_outcome, tps_outcome, tps_value, rtp_outcome, rtp_value, jif_outcome}
use Rattle.command.specs.Others.{up_to127, pulse_rows, single_rows, joined_rows, row_found, unassigned, joined_outcome, other_outcome}
use Rattle.command.specs.RowLaws.{Each, found-holds}
use Rattle.pair.specs.Pairs.{meaning_of}
use Rattle.logic.specs.Facts.{◌and◌}
use Rattle.codelaws.proofs.Refused.{PairRefused}

-- 28, place 0
range : PairRefused out_of_range
range = (inr refl, refl)

picked : (t : Bool) (x y : Outcome Meaning) → PairRefused x → PairRefused y → PairRefused (cond t x y)
picked true x y p q = p
picked false x y p q = q

seconds : (k : Command) (v : ℕ) → PairRefused (codes.command_meaning k v)
seconds DCY v = tt
seconds RUP v = tt
seconds CAL v = tt
seconds BMP v = tt
seconds FLT v = tt
seconds RNG v = tt
seconds SNC v = tt
seconds F-X v = tt
seconds DEF v = tt
seconds ATK v = tt
seconds SUS v = tt
seconds LFO v = tt
seconds P&V v = tt
seconds RDN v = tt
seconds WAV v = tt
seconds F-M v = tt
seconds RLS v = tt
seconds RES v = tt
seconds 3-0 v = tt
seconds VOL v = tt
seconds TAL v = tt
seconds END v = tt
seconds HLT v = tt
seconds SRC v = tt
seconds DST v = tt
seconds none v = (inl refl, refl)

jif : (raw : ℕ) → PairRefused (jif_outcome raw)
jif raw =
    picked (leb raw 757) (accepted (M.Jif (sub_ℕ raw 0))) (cond (leb raw 823) out_of_range (accepted (M.Jif (sub_ℕ raw 1024)))) tt
    (picked (leb raw 823) out_of_range (accepted (M.Jif (sub_ℕ raw 1024))) range tt)

up-to-127 : (v : ℕ) (m : Meaning) → PairRefused (up_to127 v m)
up-to-127 v m = picked (leb v 127) (accepted m) out_of_range tt range

sca : (v : ℕ) → PairRefused (sca_outcome v)
sca v = picked (le_z (negsuc 6) (signed_byte v) && le_z (signed_byte v) (pos 7)) (accepted (M.Sca (signed_byte v))) out_of_range tt range

tps : (v : ℕ) → PairRefused (tps_outcome v)
tps v = picked (ltb 11 (v / 16)) out_of_range (accepted (M.Tps (tps_value v))) range tt

rtp : (v : ℕ) → PairRefused (rtp_outcome v)
rtp v = picked (leb (v / 8) 22 && le_z (negsuc 46) (rtp_value v) && le_z (rtp_value v) (pos 47)) (accepted (M.Rtp (rtp_value v))) out_of_range tt range

-- row by row, in the tables' order
singles : (a b : ℕ) → Each PairRefused single_rows a b
singles a b =
    (λ q. tt)
    and (λ q. tt)
    and (λ q. tt)
    and (λ q. tt)
    and (λ q. tt)
    and (λ q. tt)
    and (λ q. tt)
    and (λ q. sca (number (byte O I I O I I I O) a * 256 + b))
    and (λ q. up-to-127 (number (byte O I I I O I I O) a * 256 + b) (M.Vdp (number (byte O I I I O I I O) a * 256 + b)))
    and (λ q. tt)
    and (λ q. tt)
    and (λ q. tps (number (byte I O I O O I I O) a * 256 + b))
    and (λ q. tt)
    and (λ q. up-to-127 (number (byte I I O O O I I O) a * 256 + b) (M.Pvd (number (byte I I O O O I I O) a * 256 + b)))
    and (λ q. up-to-127 (number (byte I I O I O I I O) a * 256 + b) (M.Pvr (number (byte I I O I O I I O) a * 256 + b)))
    and (λ q. tt)
    and (λ q. tt)
    and (λ q. tt)
    and (λ q. rtp (number (byte O O I O I I I O) a * 256 + b))
    and (λ q. tt)
    and tt

others : (a b : ℕ) → PairRefused (other_outcome a b)
others a b =
    found-holds PairRefused pulse_rows a b (row_found single_rows a b (joined_outcome a b)) ((λ q. tt) and tt)
    (found-holds PairRefused single_rows a b (joined_outcome a b) (singles a b)
    (found-holds PairRefused joined_rows a b unassigned
    ((λ q. tt) and (λ q. jif (number (byte n n I I I I I O) a * 256 + b)) and (λ q. tt) and (λ q. tt) and (λ q. tt) and tt)
    (inl refl, refl)))

pub pair-refused : (a b : ℕ) → PairRefused (meaning_of a b)
pair-refused a b =
    picked (eqb (a % 4) 0) (accepted (M.Note (note_of a b))) (cond (eqb a 1) (second_outcome b) (other_outcome a b)) tt
    (picked (eqb a 1) (second_outcome b) (other_outcome a b) (seconds (second_means b).command (second_means b).value) (others a b))
