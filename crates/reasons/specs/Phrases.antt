-- Document 01, 'What comes back', and document 02 (i): the reason for each number, in words for a person.
-- phrase_of          a phrase for each line of the table
-- table             the table's lines, in the order of their numbers
-- found, phrase_at   the phrase of a number; nothing where the table has no such number
-- bound              a number above all numbers of the table
-- phrases_from       so many phrases, from a number on
-- phrase_lines       the phrases as lines, one for each number from 0 on: empty where the table has no such
--                    number
use Rattle.std.specs.Prelude.{ℕ, zero, suc, ◌+◌, List, [], ◌∷◌, cond, eqb}
use Prim.Native.String.{String}
use Rattle.fields.specs.Parts.{byte_text}
use Rattle.refusals.specs.declared.Reason.{Reason}
use Rattle.refusals.specs.declared.Reason.TheVariants.{TooShort, Magic, Version, DataOffset, RsidReserved, Songs, ReservedBits, MusPayload, NoPayload, PastMemory, RsidLoad, RsidInit, FreePages, MusShort, MusPastMemory, VoiceLength, VoicesPastFile, TextLines, BytesAfterText, UnassignedPair, ValueRange, HltMisplaced, Structure, HedZero, TooDeep, TooLong, MemorySize, VoiceNumber, ListLengths, NoPair, NoSuchSong, SapFirstLine, SapLine, SapTags, SapBlock}
use Rattle.refusals.specs.Numbers.{number_of, reasons}

abbrev pub phrase_of : Reason → String
phrase_of TooShort = "too short for a PSID or RSID header"
phrase_of Magic = "it begins neither with PSID nor with RSID"
phrase_of Version = "its version is not one that we read (PSID 1 and 2, RSID 2)"
phrase_of DataOffset = "its data offset is not that of its version"
phrase_of RsidReserved = "an RSID whose load, play or speed field is not 0"
phrase_of Songs = "no song, more than 256 songs, or a start song past the last"
phrase_of ReservedBits = "reserved flag bits or the reserved word are set"
phrase_of MusPayload = "it is marked as a MUS song that needs a player: use the MUS file itself"
phrase_of NoPayload = "there is no byte to load after the header"
phrase_of PastMemory = "the payload runs past the end of memory, $FFFF"
phrase_of RsidLoad = "an RSID that loads below $07E8"
phrase_of RsidInit = "an RSID whose init address is not allowed"
phrase_of FreePages = "the free pages that it states cannot be free"
phrase_of MusShort = "under 8 bytes, too short for a MUS song"
phrase_of MusPastMemory = "too long for a MUS song: over 65,536 bytes, or past the end of memory, $FFFF"
phrase_of VoiceLength = "a voice's length is 0 or odd"
phrase_of VoicesPastFile = "the voices run past the end of the file: is it cut off?"
phrase_of TextLines = "its text is not five lines of at most 32 letters and an end mark"
phrase_of BytesAfterText = "bytes follow the end of the text"
phrase_of UnassignedPair = "no command has these two bytes"
phrase_of ValueRange = "a command's value is out of its range"
phrase_of HltMisplaced = "HLT must be the last pair of a voice and stand nowhere else"
phrase_of Structure = "repeats (HED, TAL) or phrases (DEF, END, CAL) do not fit together"
phrase_of HedZero = "a repeat of 0 passes (HED 0)"
phrase_of TooDeep = "repeats and calls are nested more than 16 deep"
phrase_of TooLong = "the voice is too long when played: over 1,048,576 pairs"
phrase_of MemorySize = "the memory to load into has not 65,536 bytes"
phrase_of VoiceNumber = "the voice is not 1, 2 or 3"
phrase_of ListLengths = "the two lists have unequal lengths"
phrase_of NoPair = "no pair of bytes has this meaning"
phrase_of NoSuchSong = "the file has no song of this number"
phrase_of SapFirstLine = "its first line is not SAP"
phrase_of SapLine = "a line of its header is bad or stands twice, or no FF FF follows it"
phrase_of SapTags = "its tags do not fit its type or its number of songs"
phrase_of SapBlock = "a block is bad, cut off or missing"

abbrev pub table : List Reason
table = reasons

abbrev pub found : List Reason → ℕ → List ℕ
found [] n = []
found (r ∷ rs) n = cond (eqb n (number_of r)) (byte_text (phrase_of r)) (found rs n)

abbrev pub phrase_at : ℕ → List ℕ
phrase_at n = found table n

abbrev pub bound : ℕ
bound = 55

abbrev pub phrases_from : ℕ → ℕ → List (List ℕ)
phrases_from i zero = []
phrases_from i (suc k) = phrase_at i ∷ phrases_from (i + 1) k

abbrev pub phrase_lines : List (List ℕ)
phrase_lines = phrases_from 0 bound
