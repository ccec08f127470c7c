-- Document 01, 'What comes back', and document 02 (i): the number of each refusal by name, and what a call
-- comes back with.
-- Reason, number_of   the table: why a call refuses, and its number
-- reason_numbered    the reason that has a number, if there is one
-- number-above       every number of the table is above 0
-- unplaced           a refusal with no place of its own: 'The place is 0 except for 27 to 33 in a file'
-- unplaced_number    a number with no place of its own, for every number
-- numbers_of         a refusal's number and place
-- shown              a refusal as text: its number, a space, its place
-- Outcome            a call's result as the paper has it: a value, or a refusal's number and place
-- outcome_of         the paper's number and values for each case of an answer
use Rattle.std.specs.Prelude.{Result, Ok, Err, ℕ, List, [], ◌∷◌, ◌++◌, cond, eqb, ◌<◌}
use Rattle.std.specs.Fmt.{decimal}
use Rattle.std.proofs.Common.{lit<}
use Rattle.refusals.specs.declared.Reason.{Reason}
use Rattle.refusals.specs.declared.Reason.TheVariants.{TooShort, Magic, Version, DataOffset, RsidReserved, Songs, ReservedBits, MusPayload, NoPayload, PastMemory, RsidLoad, RsidInit, FreePages, MusShort, MusPastMemory, VoiceLength, VoicesPastFile, TextLines, BytesAfterText, UnassignedPair, ValueRange, HltMisplaced, Structure, HedZero, TooDeep, TooLong, MemorySize, VoiceNumber, ListLengths, NoPair, NoSuchSong, SapFirstLine, SapLine, SapTags, SapBlock}
use Rattle.refusals.specs.declared.Refusal.{Refusal}
use Rattle.refusals.specs.declared.RefusalNumbers.{RefusalNumbers}
use Rattle.refusals.specs.declared.UnknownNumber.{UnknownNumber}

abbrev pub number_of : Reason → ℕ
number_of TooShort = 1
number_of Magic = 2
number_of Version = 3
number_of DataOffset = 4
number_of RsidReserved = 5
number_of Songs = 6
number_of ReservedBits = 7
number_of MusPayload = 8
number_of NoPayload = 9
number_of PastMemory = 10
number_of RsidLoad = 11
number_of RsidInit = 12
number_of FreePages = 13
number_of MusShort = 21
number_of MusPastMemory = 22
number_of VoiceLength = 23
number_of VoicesPastFile = 24
number_of TextLines = 25
number_of BytesAfterText = 26
number_of UnassignedPair = 27
number_of ValueRange = 28
number_of HltMisplaced = 29
number_of Structure = 30
number_of HedZero = 31
number_of TooDeep = 32
number_of TooLong = 33
number_of MemorySize = 40
number_of VoiceNumber = 41
number_of ListLengths = 42
number_of NoPair = 43
number_of NoSuchSong = 44
number_of SapFirstLine = 51
number_of SapLine = 52
number_of SapTags = 53
number_of SapBlock = 54

-- The number of every reason is above 0.
pub number-above : (r : Reason) → 0 < number_of r
number-above TooShort = lit< tt
number-above Magic = lit< tt
number-above Version = lit< tt
number-above DataOffset = lit< tt
number-above RsidReserved = lit< tt
number-above Songs = lit< tt
number-above ReservedBits = lit< tt
number-above MusPayload = lit< tt
number-above NoPayload = lit< tt
number-above PastMemory = lit< tt
number-above RsidLoad = lit< tt
number-above RsidInit = lit< tt
number-above FreePages = lit< tt
number-above MusShort = lit< tt
number-above MusPastMemory = lit< tt
number-above VoiceLength = lit< tt
number-above VoicesPastFile = lit< tt
number-above TextLines = lit< tt
number-above BytesAfterText = lit< tt
number-above UnassignedPair = lit< tt
number-above ValueRange = lit< tt
number-above HltMisplaced = lit< tt
number-above Structure = lit< tt
number-above HedZero = lit< tt
number-above TooDeep = lit< tt
number-above TooLong = lit< tt
number-above MemorySize = lit< tt
number-above VoiceNumber = lit< tt
number-above ListLengths = lit< tt
number-above NoPair = lit< tt
number-above NoSuchSong = lit< tt
number-above SapFirstLine = lit< tt
number-above SapLine = lit< tt
number-above SapTags = lit< tt
number-above SapBlock = lit< tt

-- every reason, in the order of the numbers
abbrev pub reasons : List Reason
reasons = TooShort ∷ Magic ∷ Version ∷ DataOffset ∷ RsidReserved ∷ Songs ∷ ReservedBits ∷ MusPayload ∷ NoPayload ∷ PastMemory ∷ RsidLoad ∷ RsidInit ∷ FreePages ∷ MusShort ∷ MusPastMemory ∷ VoiceLength ∷ VoicesPastFile ∷ TextLines ∷ BytesAfterText ∷ UnassignedPair ∷ ValueRange ∷ HltMisplaced ∷ Structure ∷ HedZero ∷ TooDeep ∷ TooLong ∷ MemorySize ∷ VoiceNumber ∷ ListLengths ∷ NoPair ∷ NoSuchSong ∷ SapFirstLine ∷ SapLine ∷ SapTags ∷ SapBlock ∷ []

-- the first of a list of reasons that has a number
abbrev pub numbered : List Reason → ℕ → Result Reason UnknownNumber
numbered [] n = Err (record { 0 = n })
numbered (r ∷ rs) n = cond (eqb (number_of r) n) (Ok r) (numbered rs n)

abbrev pub reason_numbered : ℕ → Result Reason UnknownNumber
reason_numbered = numbered reasons

abbrev pub unplaced : Reason → Refusal
unplaced r = record { reason = r; place = 0 }

abbrev pub unplaced_number : ℕ → RefusalNumbers
unplaced_number n = record { number = n; place = 0 }

abbrev pub numbers_of : Refusal → RefusalNumbers
numbers_of x = record { number = number_of x.reason; place = x.place }

abbrev pub shown : Refusal → List ℕ
shown x = decimal (number_of x.reason) ++ (32 ∷ decimal x.place)

pub data Outcome (A : Type 0) : Type 0 where
  accepted : A → Outcome A
  refused : ℕ → ℕ → Outcome A

abbrev pub outcome_of : {A : Type 0} → Result A Refusal → Outcome A
outcome_of (Ok a) = accepted a
outcome_of (Err x) = refused (number_of x.reason) x.place
