-- The commands of the first byte 01 by number, in source 004's order from 1, as a table of 256 codes has them;
-- 0 is none.
-- command_number     a command's number
-- command_numbered   a number's command
use Rattle.std.specs.Prelude.{ℕ, cond, eqb}
use Rattle.commandtable.specs.Codes.{Command, DCY, RUP, CAL, BMP, FLT, RNG, SNC, F-X, DEF, ATK, SUS, LFO, P&V, RDN, WAV, F-M, RLS, RES, 3-0, VOL, TAL, END, HLT, SRC, DST, none}

abbrev pub command_number : Command → ℕ
command_number DCY = 1
command_number RUP = 2
command_number CAL = 3
command_number BMP = 4
command_number FLT = 5
command_number RNG = 6
command_number SNC = 7
command_number F-X = 8
command_number DEF = 9
command_number ATK = 10
command_number SUS = 11
command_number LFO = 12
command_number P&V = 13
command_number RDN = 14
command_number WAV = 15
command_number F-M = 16
command_number RLS = 17
command_number RES = 18
command_number 3-0 = 19
command_number VOL = 20
command_number TAL = 21
command_number END = 22
command_number HLT = 23
command_number SRC = 24
command_number DST = 25
command_number none = 0

abbrev pub command_numbered : ℕ → Command
command_numbered k =
    cond (eqb k 1) DCY
    (cond (eqb k 2) RUP
    (cond (eqb k 3) CAL
    (cond (eqb k 4) BMP
    (cond (eqb k 5) FLT
    (cond (eqb k 6) RNG
    (cond (eqb k 7) SNC
    (cond (eqb k 8) F-X
    (cond (eqb k 9) DEF
    (cond (eqb k 10) ATK
    (cond (eqb k 11) SUS
    (cond (eqb k 12) LFO
    (cond (eqb k 13) P&V
    (cond (eqb k 14) RDN
    (cond (eqb k 15) WAV
    (cond (eqb k 16) F-M
    (cond (eqb k 17) RLS
    (cond (eqb k 18) RES
    (cond (eqb k 19) 3-0
    (cond (eqb k 20) VOL
    (cond (eqb k 21) TAL
    (cond (eqb k 22) END
    (cond (eqb k 23) HLT
    (cond (eqb k 24) SRC
    (cond (eqb k 25) DST none))))))))))))))))))))))))
