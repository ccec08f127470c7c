-- Document 01, 'MUS container' and 'Playing a voice': 27 to 31 at one pair.
-- refused_pair             the reason of a pair that is refused, by its number: 27, else 28
-- is_bad, is_hlt            a pair that is refused with a number; HLT
-- misplaced_hlt            'HLT before the last pair, or a last pair that isn't HLT, is 29'
-- pair_tests               27 to 29, 'at one pair the lower number'
-- Opener                  what a body was opened by: a HED, or a DEF with its number
-- Nesting                 at a pair: the openers still open, the last one first, and the numbers closed by
--                         END
-- last_hed, last_def, any_def, any   whether the last opener still open is a HED, is a DEF; whether a DEF is
--                                 open, whether anything is
-- misplaced               30, case by case
-- hed_of_zero               'HED 0 is 31'
-- nesting_tests            30 and 31
-- rest                    the openers without the last one
-- openers_after            what is open after a pair: 'TAL closes the last HED still open, END the open DEF'
-- closed_by, closed_after   the numbers closed after an END, and after a pair
-- nesting_after            what is open and closed after a pair
-- start                   what is open and closed before the first pair: nothing
use Rattle.std.specs.Prelude.{ℕ, Bool, true, false, not, ◌||◌, cond, List, [], ◌∷◌, eqb}
use Rattle.refusals.specs.Numbers.{number_of}
use Rattle.refusals.specs.declared.Reason.{Reason}
use Rattle.refusals.specs.declared.Reason.TheVariants.{UnassignedPair, ValueRange, HltMisplaced, Structure, HedZero}
use Rattle.refusals.specs.declared.Test.{Test}
use Rattle.refusals.specs.Tests.{test}
use Rattle.kind.specs.declared.Kind.{Kind}
use Rattle.kind.specs.declared.Kind.TheVariants.{Event, Hed, Tal, Def, End, Cal, Hlt, Bad}
use Rattle.bodies.specs.Order.{also, none_closed}

abbrev pub refused_pair : ℕ → Reason
refused_pair number = cond (eqb number 27) UnassignedPair ValueRange

abbrev pub is_bad : ℕ → Kind → Bool
is_bad number Event = false
is_bad number (Hed n) = false
is_bad number Tal = false
is_bad number (Def k) = false
is_bad number End = false
is_bad number (Cal k) = false
is_bad number Hlt = false
is_bad number (Bad n) = eqb n number

abbrev pub is_hlt : Kind → Bool
is_hlt Event = false
is_hlt (Hed n) = false
is_hlt Tal = false
is_hlt (Def k) = false
is_hlt End = false
is_hlt (Cal k) = false
is_hlt Hlt = true
is_hlt (Bad n) = false

abbrev pub misplaced_hlt : Kind → Bool → Bool
misplaced_hlt z last = cond (is_hlt z) (not last) last

abbrev pub pair_tests : Kind → Bool → List Test
pair_tests z last =
    test UnassignedPair (is_bad (number_of UnassignedPair) z)
    ∷ test ValueRange (is_bad (number_of ValueRange) z)
    ∷ test HltMisplaced (misplaced_hlt z last)
    ∷ []

pub data Opener : Type 0 where
  by_hed : Opener
  by_def : ℕ → Opener

pub record Nesting : Type 0 where
  pub openers : List Opener
  pub closed : ℕ → Bool

abbrev pub last_hed : List Opener → Bool
last_hed [] = false
last_hed (by_hed ∷ os) = true
last_hed (by_def k ∷ os) = false

abbrev pub last_def : List Opener → Bool
last_def [] = false
last_def (by_hed ∷ os) = false
last_def (by_def k ∷ os) = true

abbrev pub any_def : List Opener → Bool
any_def [] = false
any_def (by_hed ∷ os) = any_def os
any_def (by_def k ∷ os) = true

abbrev pub any : List Opener → Bool
any [] = false
any (o ∷ os) = true

abbrev pub misplaced : Kind → Nesting → Bool
misplaced Event o = false
misplaced (Hed n) o = false
-- 'TAL without a HED still open and, in an open DEF, opened inside it': the last opener is a DEF, or there is
-- none
misplaced Tal o = not (last_hed o.openers)
-- 'DEF in DEF; a number defined twice in the voice'
misplaced (Def k) o = any_def o.openers || o.closed k
-- 'END without DEF or over a HED still open in it': the last opener is a HED, or there is none
misplaced End o = not (last_def o.openers)
-- 'CAL of a number not yet closed by END'
misplaced (Cal k) o = not (o.closed k)
-- 'HLT with HED or DEF open'
misplaced Hlt o = any o.openers
misplaced (Bad n) o = false

abbrev pub hed_of_zero : Kind → Bool
hed_of_zero Event = false
hed_of_zero (Hed n) = eqb n 0
hed_of_zero Tal = false
hed_of_zero (Def k) = false
hed_of_zero End = false
hed_of_zero (Cal k) = false
hed_of_zero Hlt = false
hed_of_zero (Bad n) = false

abbrev pub nesting_tests : Kind → Nesting → List Test
nesting_tests z o = test Structure (misplaced z o) ∷ test HedZero (hed_of_zero z) ∷ []

abbrev pub rest : List Opener → List Opener
rest [] = []
rest (o ∷ os) = os

abbrev pub openers_after : Kind → List Opener → List Opener
openers_after Event os = os
openers_after (Hed n) os = by_hed ∷ os
openers_after Tal os = rest os
openers_after (Def k) os = by_def k ∷ os
openers_after End os = rest os
openers_after (Cal k) os = os
openers_after Hlt os = os
openers_after (Bad n) os = os

abbrev pub closed_by : List Opener → (ℕ → Bool) → ℕ → Bool
closed_by [] closed = closed
closed_by (by_hed ∷ os) closed = closed
closed_by (by_def k ∷ os) closed = also k closed

abbrev pub closed_after : Kind → List Opener → (ℕ → Bool) → ℕ → Bool
closed_after Event os closed = closed
closed_after (Hed n) os closed = closed
closed_after Tal os closed = closed
closed_after (Def k) os closed = closed
closed_after End os closed = closed_by os closed
closed_after (Cal k) os closed = closed
closed_after Hlt os closed = closed
closed_after (Bad n) os closed = closed

abbrev pub nesting_after : Kind → Nesting → Nesting
nesting_after z o = record { openers = openers_after z o.openers; closed = closed_after z o.openers o.closed }

abbrev pub start : Nesting
start = record { openers = []; closed = none_closed }
