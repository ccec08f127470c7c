-- The code's table of 256 meanings means at each second byte what the rows say.
-- agrees           the code at each second byte, of the list of 256 codes, means what the rows say
-- meant            the meaning of a code of the table of 256 codes, if there is one
-- meaning_agrees   the meaning at each second byte, or 27
use Rattle.std.specs.Prelude.{ℕ, ◌/◌, ◌%◌, ◌<◌, ◌≡◌, refl, Option, Some, None, get_or, map}
use Rattle.std.proofs.Common.{◌∙◌, ap}
use Rattle.std.proofs.Math.ListN.{get_or-map}
use Rattle.std.specs.Option.{ok_or}
use Rattle.meaning.specs.declared.Meaning.{Meaning}
use Rattle.refusals.specs.declared.Reason.TheVariants.{UnassignedPair}
use Rattle.refusals.specs.Numbers.{Outcome, outcome_of, unplaced}
use Rattle.refusals.specs.Numbers.Outcome.{accepted, refused}
use Rattle.commandtable.specs.Codes.{Command, DCY, RUP, CAL, BMP, FLT, RNG, SNC, F-X, DEF, ATK, SUS, LFO, P&V, RDN, WAV, F-M, RLS, RES, 3-0, VOL, TAL, END, HLT, SRC, DST, none, rows, command_meaning, second_outcome}
use Rattle.commandtable.specs.Numbering.{command_numbered}
use Rattle.commandtable.proofs.Table.{entries_right, codes, all_right_entries}

pub agrees : (b : ℕ) → b < 256 → command_meaning (command_numbered (get_or codes b 0 / 256)) (get_or codes b 0 % 256) ≡ second_outcome b
agrees b h = entries_right rows codes all_right_entries b h

abbrev told : Outcome Meaning → Option Meaning
told (accepted m) = Some m
told (refused number place) = None

abbrev pub meant : ℕ → Option Meaning
meant x = told (command_meaning (command_numbered (x / 256)) (x % 256))

abbrev answered : Option Meaning → Outcome Meaning
answered m = outcome_of (ok_or m (unplaced UnassignedPair))

told_answered : (k : Command) (v : ℕ) → answered (told (command_meaning k v)) ≡ command_meaning k v
told_answered DCY v = refl
told_answered RUP v = refl
told_answered CAL v = refl
told_answered BMP v = refl
told_answered FLT v = refl
told_answered RNG v = refl
told_answered SNC v = refl
told_answered F-X v = refl
told_answered DEF v = refl
told_answered ATK v = refl
told_answered SUS v = refl
told_answered LFO v = refl
told_answered P&V v = refl
told_answered RDN v = refl
told_answered WAV v = refl
told_answered F-M v = refl
told_answered RLS v = refl
told_answered RES v = refl
told_answered 3-0 v = refl
told_answered VOL v = refl
told_answered TAL v = refl
told_answered END v = refl
told_answered HLT v = refl
told_answered SRC v = refl
told_answered DST v = refl
told_answered none v = refl

pub meaning_agrees : (b : ℕ) → b < 256 → answered (get_or (map meant codes) b None) ≡ second_outcome b
meaning_agrees b h =
    let x = get_or codes b 0 in
    ap answered (get_or-map meant codes b 0) ∙ told_answered (command_numbered (x / 256)) (x % 256) ∙ agrees b h
