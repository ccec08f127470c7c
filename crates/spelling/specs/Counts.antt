-- Source 004's VALUE columns read backwards, for values that have no sign: the two bytes of a value, or 43.
-- pair, no_bytes       the two bytes; 43, 'no pair has this meaning'
-- bumped              BMP: 03 UP, 0B DN
-- switched, only_yes   NO and YES, each with its second byte; 3-0, which has YES alone
-- counted             first byte 01, the value in the second byte's upper bits
-- phrase_from          CAL and DEF: 0 to 15 in one row, 16 and a least number to 23 in another
-- phrase              the same where that least number is 0, so 0 to 23
-- destination         DST: '000=0, 010=1, 101=2, 110=3'
-- alone               'Second byte is the value'
-- joined              'the first byte's bits stand above the second byte'
-- tempo               'TEM 0 means 256'
use Rattle.std.specs.Prelude.{ℕ, ◌+◌, ◌*◌, ◌-◌, ◌/◌, ◌%◌, Bool, true, false, ◌&&◌, ◌||◌, cond, eqb, leb, ltb}
use Rattle.meaning.specs.declared.Bump.{Bump}
use Rattle.meaning.specs.declared.Bump.TheVariants.{Up, Down}
use Rattle.meaning.specs.declared.Bytes.{Bytes}
use Rattle.refusals.specs.declared.Reason.TheVariants.{NoPair}
use Rattle.refusals.specs.Numbers.{Outcome, number_of}
use Rattle.refusals.specs.Numbers.Outcome.{accepted, refused}

abbrev pub pair : ℕ → ℕ → Outcome Bytes
pair a b = accepted (record { first = a; second = b })

abbrev pub no_bytes : Outcome Bytes
no_bytes = refused (number_of NoPair) 0

abbrev pub bumped : Bump → Outcome Bytes
bumped Up = pair 1 0x03
bumped Down = pair 1 0x0B

abbrev pub switched : Bool → ℕ → ℕ → Outcome Bytes
switched true off on = pair 1 on
switched false off on = pair 1 off

abbrev pub only_yes : Bool → ℕ → Outcome Bytes
only_yes true on = pair 1 on
only_yes false on = no_bytes

abbrev pub counted : ℕ → ℕ → ℕ → ℕ → Outcome Bytes
counted v most base step = cond (leb v most) (pair 1 (base + step * v)) no_bytes

abbrev pub phrase_from : ℕ → ℕ → ℕ → ℕ → Outcome Bytes
phrase_from least v low high =
    cond (leb v 15) (pair 1 (low + 16 * v)) (cond (leb (16 + least) v && leb v 23) (pair 1 (high + 16 * (v - 16))) no_bytes)

abbrev pub phrase : ℕ → ℕ → ℕ → Outcome Bytes
phrase v low high = phrase_from 0 v low high

abbrev pub destination : ℕ → Outcome Bytes
destination v =
    cond (eqb v 0) (pair 1 0x8F)
    (cond (eqb v 1) (pair 1 0xAF)
    (cond (eqb v 2) (pair 1 0xDF)
    (cond (eqb v 3) (pair 1 0xEF) no_bytes)))

abbrev pub alone : ℕ → ℕ → ℕ → Outcome Bytes
alone first v most = cond (leb v most) (pair first v) no_bytes

abbrev pub joined : ℕ → ℕ → ℕ → ℕ → Outcome Bytes
joined v most base step = cond (leb v most) (pair (base + step * (v / 256)) (v % 256)) no_bytes

abbrev pub tempo : ℕ → Outcome Bytes
tempo v = cond (eqb v 0 || ltb 256 v) no_bytes (pair 0x06 (v % 256))
