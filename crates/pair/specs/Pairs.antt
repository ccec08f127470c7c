-- Document 01, 'A pair': what two bytes mean, and how a meaning is written.
-- meaning_from    a pair's meaning, or 27 (unassigned) or 28 (out of range): 'First byte with low bits 00: a
--                note', else a command
-- spelling_from   a meaning's two bytes, or 43: notes, then 004's commands in its order, each with its
--                greatest value and where the value stands
-- In both, least is the least number of the rows 1nnn of DEF and CAL (rows_from of
-- crates/commandtable/specs/Codes.antt).
-- meaning_of, spelling_of   both by the tables as they hold: that least number is 0
use Rattle.std.specs.Prelude.{ℕ, ◌%◌, cond, eqb}
use Rattle.meaning.specs.declared.Meaning.{Meaning}
use Rattle.meaning.specs.declared.Meaning.TheVariants.{Note, Dcy, Rup, Cal, Bmp, Flt, Rng, Snc, Fx, Def, Atk, Sus, Lfo, Pv, Rdn, Wav, Fm, Rls, Res, ThreeOff, Vol, Tal, End, Hlt, Src, Dst, Pw, Tem, Utl, Pnt, Hed, Flg, Ps, Fs, Sca, Vdp, Vrt, Aut, Tps, Aux, Pvd, Pvr, Max, Utv, Fc, Rtp, Hld, Ms, Jif, Dtn, Por}
use Rattle.meaning.specs.declared.Bytes.{Bytes}
use Rattle.note.specs.Reading.{note_of}
use Rattle.note.specs.Writing.{note_spelling}
use Rattle.command.specs.Pair.{command_from}
use Rattle.spelling.specs.Counts.{pair, bumped, switched, only_yes, counted, phrase_from, destination, alone, joined, tempo}
use Rattle.spelling.specs.Signs.{spelled_signed, jif, dtn, tps, rtp}
use Rattle.refusals.specs.Numbers.{Outcome}
use Rattle.refusals.specs.Numbers.Outcome.{accepted}

module _ (least : ℕ) where
  abbrev pub meaning_from : ℕ → ℕ → Outcome Meaning
  meaning_from a b = cond (eqb (a % 4) 0) (accepted (Note (note_of a b))) (command_from least a b)

  abbrev pub spelling_from : Meaning → Outcome Bytes
  spelling_from (Note n) = note_spelling n
  spelling_from (Dcy v) = counted v 15 0x00 16
  spelling_from (Rup v) = counted v 31 0x01 8
  spelling_from (Cal v) = phrase_from least v 0x02 0x8B
  spelling_from (Bmp b) = bumped b
  spelling_from (Flt y) = switched y 0x13 0x1B
  spelling_from (Rng y) = switched y 0x23 0x2B
  spelling_from (Snc y) = switched y 0x33 0x3B
  spelling_from (Fx y) = switched y 0x43 0x4B
  spelling_from (Def v) = phrase_from least v 0x06 0x83
  spelling_from (Atk v) = counted v 15 0x04 8
  spelling_from (Sus v) = counted v 15 0x84 8
  spelling_from (Lfo v) = counted v 1 0x63 8
  spelling_from (Pv y) = switched y 0x73 0x7B
  spelling_from (Rdn v) = counted v 31 0x05 8
  spelling_from (Wav v) = counted v 7 0x07 32
  spelling_from (Fm v) = counted v 7 0x17 32
  spelling_from (Rls v) = counted v 15 0x08 16
  spelling_from (Res v) = counted v 15 0x0A 16
  spelling_from (ThreeOff y) = only_yes y 0x5B
  spelling_from (Vol v) = counted v 15 0x0E 16
  spelling_from Tal = pair 1 0x0F
  spelling_from End = pair 1 0x2F
  spelling_from Hlt = pair 1 0x4F
  spelling_from (Src v) = counted v 2 0x1F 32
  spelling_from (Dst v) = destination v
  spelling_from (Pw v) = joined v 4095 0x02 16
  spelling_from (Tem v) = tempo v
  spelling_from (Utl v) = alone 0x16 v 255
  spelling_from (Pnt v) = alone 0x26 v 255
  spelling_from (Hed v) = alone 0x36 v 255
  spelling_from (Flg v) = alone 0x46 v 255
  spelling_from (Ps z) = spelled_signed 0x56 z 128 127
  spelling_from (Fs z) = spelled_signed 0x66 z 128 127
  spelling_from (Sca z) = spelled_signed 0x6E z 7 7
  spelling_from (Vdp v) = alone 0x76 v 127
  spelling_from (Vrt v) = alone 0x86 v 255
  spelling_from (Aut z) = spelled_signed 0x96 z 128 127
  spelling_from (Tps z) = tps z
  spelling_from (Aux v) = alone 0xB6 v 255
  spelling_from (Pvd v) = alone 0xC6 v 127
  spelling_from (Pvr v) = alone 0xD6 v 127
  spelling_from (Max v) = alone 0xE6 v 255
  spelling_from (Utv v) = alone 0xF6 v 255
  spelling_from (Fc v) = alone 0x0E v 255
  spelling_from (Rtp z) = rtp z
  spelling_from (Hld v) = alone 0x4E v 255
  spelling_from (Ms v) = joined v 1023 0x1E 64
  spelling_from (Jif z) = jif z
  spelling_from (Dtn z) = dtn z
  spelling_from (Por v) = joined v 16383 0x03 4

abbrev pub meaning_of : ℕ → ℕ → Outcome Meaning
meaning_of a b = meaning_from 0 a b

abbrev pub spelling_of : Meaning → Outcome Bytes
spelling_of m = spelling_from 0 m
