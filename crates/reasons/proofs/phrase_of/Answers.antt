-- `phrase_of` meets its contract: each text of the code is the table's, as it computes. Assumes nothing.
use Rattle.reasons.proofs.phrase_of.Goals as goal

pub returns-in-TooShort : goal.returns-in-TooShort
returns-in-TooShort c = rw c.in-TooShort.is

pub returns-in-Magic : goal.returns-in-Magic
returns-in-Magic c = rw c.in-Magic.is

pub returns-in-Version : goal.returns-in-Version
returns-in-Version c = rw c.in-Version.is

pub returns-in-DataOffset : goal.returns-in-DataOffset
returns-in-DataOffset c = rw c.in-DataOffset.is

pub returns-in-RsidReserved : goal.returns-in-RsidReserved
returns-in-RsidReserved c = rw c.in-RsidReserved.is

pub returns-in-Songs : goal.returns-in-Songs
returns-in-Songs c = rw c.in-Songs.is

pub returns-in-ReservedBits : goal.returns-in-ReservedBits
returns-in-ReservedBits c = rw c.in-ReservedBits.is

pub returns-in-MusPayload : goal.returns-in-MusPayload
returns-in-MusPayload c = rw c.in-MusPayload.is

pub returns-in-NoPayload : goal.returns-in-NoPayload
returns-in-NoPayload c = rw c.in-NoPayload.is

pub returns-in-PastMemory : goal.returns-in-PastMemory
returns-in-PastMemory c = rw c.in-PastMemory.is

pub returns-in-RsidLoad : goal.returns-in-RsidLoad
returns-in-RsidLoad c = rw c.in-RsidLoad.is

pub returns-in-RsidInit : goal.returns-in-RsidInit
returns-in-RsidInit c = rw c.in-RsidInit.is

pub returns-in-FreePages : goal.returns-in-FreePages
returns-in-FreePages c = rw c.in-FreePages.is

pub returns-in-MusShort : goal.returns-in-MusShort
returns-in-MusShort c = rw c.in-MusShort.is

pub returns-in-MusPastMemory : goal.returns-in-MusPastMemory
returns-in-MusPastMemory c = rw c.in-MusPastMemory.is

pub returns-in-VoiceLength : goal.returns-in-VoiceLength
returns-in-VoiceLength c = rw c.in-VoiceLength.is

pub returns-in-VoicesPastFile : goal.returns-in-VoicesPastFile
returns-in-VoicesPastFile c = rw c.in-VoicesPastFile.is

pub returns-in-TextLines : goal.returns-in-TextLines
returns-in-TextLines c = rw c.in-TextLines.is

pub returns-in-BytesAfterText : goal.returns-in-BytesAfterText
returns-in-BytesAfterText c = rw c.in-BytesAfterText.is

pub returns-in-UnassignedPair : goal.returns-in-UnassignedPair
returns-in-UnassignedPair c = rw c.in-UnassignedPair.is

pub returns-in-ValueRange : goal.returns-in-ValueRange
returns-in-ValueRange c = rw c.in-ValueRange.is

pub returns-in-HltMisplaced : goal.returns-in-HltMisplaced
returns-in-HltMisplaced c = rw c.in-HltMisplaced.is

pub returns-in-Structure : goal.returns-in-Structure
returns-in-Structure c = rw c.in-Structure.is

pub returns-in-HedZero : goal.returns-in-HedZero
returns-in-HedZero c = rw c.in-HedZero.is

pub returns-in-TooDeep : goal.returns-in-TooDeep
returns-in-TooDeep c = rw c.in-TooDeep.is

pub returns-in-TooLong : goal.returns-in-TooLong
returns-in-TooLong c = rw c.in-TooLong.is

pub returns-in-MemorySize : goal.returns-in-MemorySize
returns-in-MemorySize c = rw c.in-MemorySize.is

pub returns-in-VoiceNumber : goal.returns-in-VoiceNumber
returns-in-VoiceNumber c = rw c.in-VoiceNumber.is

pub returns-in-ListLengths : goal.returns-in-ListLengths
returns-in-ListLengths c = rw c.in-ListLengths.is

pub returns-in-NoPair : goal.returns-in-NoPair
returns-in-NoPair c = rw c.in-NoPair.is

pub returns-in-NoSuchSong : goal.returns-in-NoSuchSong
returns-in-NoSuchSong c = rw c.in-NoSuchSong.is

pub returns-in-SapFirstLine : goal.returns-in-SapFirstLine
returns-in-SapFirstLine c = rw c.in-SapFirstLine.is

pub returns-in-SapLine : goal.returns-in-SapLine
returns-in-SapLine c = rw c.in-SapLine.is

pub returns-in-SapTags : goal.returns-in-SapTags
returns-in-SapTags c = rw c.in-SapTags.is

pub returns-in-SapBlock : goal.returns-in-SapBlock
returns-in-SapBlock c = rw c.in-SapBlock.is
