-- Worked rows of records: the forms of fields, and which refusal comes first.
use Rattle.std.specs.Prelude.{◌≡◌, [], ◌∷◌, ◌++◌, codes}
use Rattle.model.specs.Rows.Rows.{times, shows, row}

-- each refusal by its cause
abbrev pub RefusalsByName : Type 0
RefusalsByName =
    row
    (codes "send,1,1,c0,8,c7"
    ∷ codes "send,0,3,c0,8,c7"
    ∷ codes "send,0,1,0,8,c7"
    ∷ codes "send,0,1,c0,6,c7"
    ∷ codes "send,0,1,c0,8,a7"
    ∷ codes "send,0,1,c0,8,10d7"
    ∷ codes "send,0,1,c0,8,400c7"
    ∷ codes "send,0,1,c0,8"
    ∷ codes "unmap,0,80,c0"
    ∷ codes "map,0,1" ∷ [])
    ≡ shows
    (codes "1 refused SameSpace"
    ∷ codes "2 refused NoSuchSpace"
    ∷ codes "3 refused NoWindow"
    ∷ codes "4 refused NotAnItem"
    ∷ codes "5 refused BadSize"
    ∷ codes "6 refused Misaligned"
    ∷ codes "7 refused OutOfSpace"
    ∷ codes "8 refused BadRecord"
    ∷ codes "9 refused BadControl"
    ∷ codes "10 refused BadRecord" ∷ [])
    []
    []

-- digits and their number, kinds, and the order of refusals
abbrev pub AccessFields : Type 0
AccessFields =
    row
    (codes "access,3,40000,r"
    ∷ codes "access,0,40000,r"
    ∷ codes "access,0,3ffff,r"
    ∷ codes "access,0,ffff,x"
    ∷ codes "access,0,10000,x"
    ∷ codes "access,00000,0000aBcD,r"
    ∷ codes "access,65535,0,r"
    ∷ codes "access,65536,0,r"
    ∷ codes "access,000000,0,r"
    ∷ codes "access,0,000000000,r"
    ∷ codes "access,a,0,r"
    ∷ codes "access,0,g,r"
    ∷ codes "access,+0,0,r"
    ∷ codes "access, 0,0,r"
    ∷ codes "access,0,0x0,r"
    ∷ codes "access,0,-1,r"
    ∷ codes "access,0,,r"
    ∷ codes "access,0,0,R"
    ∷ codes "access,0,0,rw"
    ∷ codes "access,0,0,"
    ∷ codes "access,0,0"
    ∷ codes "access,0,0,r,"
    ∷ codes "Access,0,0,r" ∷ [])
    ≡ shows
    (codes "1 refused NoSuchSpace"
    ∷ codes "2 refused OutOfSpace"
    ∷ codes "3 access fault"
    ∷ codes "4 access ok"
    ∷ codes "5 access fault"
    ∷ codes "6 access ok"
    ∷ codes "7 refused NoSuchSpace"
    ∷ codes "8 refused BadRecord"
    ∷ codes "9 refused BadRecord"
    ∷ codes "10 refused BadRecord"
    ∷ codes "11 refused BadRecord"
    ∷ codes "12 refused BadRecord"
    ∷ codes "13 refused BadRecord"
    ∷ codes "14 refused BadRecord"
    ∷ codes "15 refused BadRecord"
    ∷ codes "16 refused BadRecord"
    ∷ codes "17 refused BadRecord"
    ∷ codes "18 refused BadRecord"
    ∷ codes "19 refused BadRecord"
    ∷ codes "20 refused BadRecord"
    ∷ codes "21 refused BadRecord"
    ∷ codes "22 refused BadRecord"
    ∷ codes "23 refused BadRecord" ∷ [])
    (codes "0,10,10,rwx,R--,-"
    ∷ codes "0,15,15,rwx,R-X,-" ∷ [])
    []

-- the window, each item in turn, the sender, the receiver, one space for both, the nilpage
abbrev pub SendRefusalsInOrder : Type 0
SendRefusalsInOrder =
    row
    (codes "send,3,3,a7,6,a7"
    ∷ codes "send,3,3,0,6,a7"
    ∷ codes "send,3,3,0,8,10d7,6,a7"
    ∷ codes "send,3,3,0,8,c7,6,a7"
    ∷ codes "send,3,0,0,8,c7"
    ∷ codes "send,1,1,0,8,c7"
    ∷ codes "send,0,1,f,8,c7"
    ∷ codes "send,0,1,7,8,0"
    ∷ codes "send,65535,1,c0,8,c7"
    ∷ codes "send,65536,1,a7,8,a7"
    ∷ codes "send,3,3,c0,8,c7"
    ∷ codes "send,0,3,c0,8,c7" ∷ [])
    ≡ shows
    (codes "1 refused BadSize"
    ∷ codes "2 refused NotAnItem"
    ∷ codes "3 refused Misaligned"
    ∷ codes "4 refused NotAnItem"
    ∷ codes "5 refused NoSuchSpace"
    ∷ codes "6 refused SameSpace"
    ∷ codes "7 refused NoWindow"
    ∷ codes "8 refused NoWindow"
    ∷ codes "9 refused NoSuchSpace"
    ∷ codes "10 refused BadRecord"
    ∷ codes "11 refused NoSuchSpace"
    ∷ codes "12 refused NoSuchSpace" ∷ [])
    []
    []

-- the form, the control word, each word in turn, the space; no words, and one more than 64
abbrev pub UnmapRefusalsInOrder : Type 0
UnmapRefusalsInOrder =
    row
    (codes "unmap,0"
    ∷ codes "unmap,65536,80,c7"
    ∷ codes "unmap,0,0,123456789"
    ∷ codes "unmap,3,80,a7"
    ∷ codes "unmap,0,80000000,c7"
    ∷ codes "unmap,0,0"
    ∷ codes "unmap,0,1,c7"
    ∷ (codes "unmap,0,3f" ++ times 65 (codes ",0"))
    ∷ (codes "unmap,0,0" ++ times 65 (codes ",0"))
    ∷ codes "unmap,3,0,a7"
    ∷ codes "unmap,3,1,400c7,a7"
    ∷ codes "unmap,3,0,c7"
    ∷ codes "unmap,65535,0,c7" ∷ [])
    ≡ shows
    (codes "1 refused BadRecord"
    ∷ codes "2 refused BadRecord"
    ∷ codes "3 refused BadRecord"
    ∷ codes "4 refused BadControl"
    ∷ codes "5 refused BadControl"
    ∷ codes "6 refused BadControl"
    ∷ codes "7 refused BadControl"
    ∷ codes "8 refused BadControl"
    ∷ codes "9 refused BadControl"
    ∷ codes "10 refused BadSize"
    ∷ codes "11 refused OutOfSpace"
    ∷ codes "12 refused NoSuchSpace"
    ∷ codes "13 refused NoSuchSpace" ∷ [])
    []
    []

-- 31 items are a send and 32 are none, nor is an odd word or no item; 64 words are an unmap
abbrev pub NumbersOfWords : Type 0
NumbersOfWords =
    row
    ((codes "send,0,1,10" ++ times 31 (codes ",8,0"))
    ∷ (codes "send,0,1,10" ++ times 32 (codes ",8,0"))
    ∷ codes "send,0,1,10,8,c7,8"
    ∷ codes "send,0,1,10"
    ∷ (codes "unmap,0,3f" ++ times 64 (codes ",0")) ∷ [])
    ≡ shows
    (codes "1 send absent=0 norights=0 origin=0 lost=0 extended=0 linked=0"
    ∷ codes "2 refused BadRecord"
    ∷ codes "3 refused BadRecord"
    ∷ codes "4 refused BadRecord"
    ∷ (codes "5 unmap" ++ times 64 (codes " 00000000")) ∷ [])
    []
    []

-- a field counts by its value, and an empty line is no record
abbrev pub QuotedFields : Type 0
QuotedFields =
    row
    (codes "\"access\",\"0\",\"0\",\"r\""
    ∷ codes ""
    ∷ codes "\"\""
    ∷ codes "\"acc\"\"ess\",0,0,r"
    ∷ codes "\"send\",0,1,\"c0\",8,c7"
    ∷ codes "acc\"ess\",0,0,r"
    ∷ codes "\"access\"x,0,0,r" ∷ [])
    ≡ shows
    (codes "1 access ok"
    ∷ codes "2 refused BadRecord"
    ∷ codes "3 refused BadRecord"
    ∷ codes "4 send absent=0 norights=0 origin=0 lost=0 extended=0 linked=1"
    ∷ codes "5 refused BadRecord"
    ∷ codes "6 refused BadRecord" ∷ [])
    (codes "0,0,0,rwx,R--,-"
    ∷ codes "1,0,0,rwx,---,0:0" ∷ [])
    []

-- the pages that each digit names, in lower and in upper case
abbrev pub DigitsOfAddresses : Type 0
DigitsOfAddresses =
    row
    (codes "access,0,0,r"
    ∷ codes "access,0,1000,r"
    ∷ codes "access,0,2000,r"
    ∷ codes "access,0,3000,r"
    ∷ codes "access,0,4000,r"
    ∷ codes "access,0,5000,r"
    ∷ codes "access,0,6000,r"
    ∷ codes "access,0,7000,r"
    ∷ codes "access,0,8000,r"
    ∷ codes "access,0,9000,r"
    ∷ codes "access,0,a000,w"
    ∷ codes "access,0,b000,w"
    ∷ codes "access,0,c000,w"
    ∷ codes "access,0,d000,w"
    ∷ codes "access,0,e000,w"
    ∷ codes "access,0,f000,w"
    ∷ codes "access,0,A000,x"
    ∷ codes "access,0,B000,x"
    ∷ codes "access,0,C000,x"
    ∷ codes "access,0,D000,x"
    ∷ codes "access,0,E000,x"
    ∷ codes "access,0,F000,x" ∷ [])
    ≡ shows
    (codes "1 access ok"
    ∷ codes "2 access ok"
    ∷ codes "3 access ok"
    ∷ codes "4 access ok"
    ∷ codes "5 access ok"
    ∷ codes "6 access ok"
    ∷ codes "7 access ok"
    ∷ codes "8 access ok"
    ∷ codes "9 access ok"
    ∷ codes "10 access ok"
    ∷ codes "11 access ok"
    ∷ codes "12 access ok"
    ∷ codes "13 access ok"
    ∷ codes "14 access ok"
    ∷ codes "15 access ok"
    ∷ codes "16 access ok"
    ∷ codes "17 access ok"
    ∷ codes "18 access ok"
    ∷ codes "19 access ok"
    ∷ codes "20 access ok"
    ∷ codes "21 access ok"
    ∷ codes "22 access ok" ∷ [])
    (codes "0,0,0,rwx,R--,-"
    ∷ codes "0,1,1,rwx,R--,-"
    ∷ codes "0,2,2,rwx,R--,-"
    ∷ codes "0,3,3,rwx,R--,-"
    ∷ codes "0,4,4,rwx,R--,-"
    ∷ codes "0,5,5,rwx,R--,-"
    ∷ codes "0,6,6,rwx,R--,-"
    ∷ codes "0,7,7,rwx,R--,-"
    ∷ codes "0,8,8,rwx,R--,-"
    ∷ codes "0,9,9,rwx,R--,-"
    ∷ codes "0,10,10,rwx,RWX,-"
    ∷ codes "0,11,11,rwx,RWX,-"
    ∷ codes "0,12,12,rwx,RWX,-"
    ∷ codes "0,13,13,rwx,RWX,-"
    ∷ codes "0,14,14,rwx,RWX,-"
    ∷ codes "0,15,15,rwx,RWX,-" ∷ [])
    []

-- the bytes before and behind the digits, in each field
abbrev pub BytesThatAreNoDigits : Type 0
BytesThatAreNoDigits =
    row
    (codes "access,0,/,r"
    ∷ codes "access,0,:,r"
    ∷ codes "access,0,@,r"
    ∷ codes "access,0,G,r"
    ∷ codes "access,0,`,r"
    ∷ codes "access,0,g,r"
    ∷ codes "access,0,0:,r"
    ∷ codes "access,0,:0,r"
    ∷ codes "access,0,.0,r"
    ∷ codes "access,/,0,r"
    ∷ codes "access,:,0,r"
    ∷ codes "access,A,0,r"
    ∷ codes "access,0,0 ,r"
    ∷ codes "send,0,1,:0,8,c7"
    ∷ codes "send,0,1,c0,:,c7"
    ∷ codes "send,0,1,c0,8,c:"
    ∷ codes "send,:,1,c0,8,c7"
    ∷ codes "send,0,:,c0,8,c7"
    ∷ codes "unmap,0,:,c0"
    ∷ codes "unmap,0,0,`0"
    ∷ codes "unmap,:,0,c0" ∷ [])
    ≡ shows
    (codes "1 refused BadRecord"
    ∷ codes "2 refused BadRecord"
    ∷ codes "3 refused BadRecord"
    ∷ codes "4 refused BadRecord"
    ∷ codes "5 refused BadRecord"
    ∷ codes "6 refused BadRecord"
    ∷ codes "7 refused BadRecord"
    ∷ codes "8 refused BadRecord"
    ∷ codes "9 refused BadRecord"
    ∷ codes "10 refused BadRecord"
    ∷ codes "11 refused BadRecord"
    ∷ codes "12 refused BadRecord"
    ∷ codes "13 refused BadRecord"
    ∷ codes "14 refused BadRecord"
    ∷ codes "15 refused BadRecord"
    ∷ codes "16 refused BadRecord"
    ∷ codes "17 refused BadRecord"
    ∷ codes "18 refused BadRecord"
    ∷ codes "19 refused BadRecord"
    ∷ codes "20 refused BadRecord"
    ∷ codes "21 refused BadRecord" ∷ [])
    []
    []

-- the three kinds, each one byte in lower case
abbrev pub KindsOfAccess : Type 0
KindsOfAccess =
    row
    (codes "access,0,0,R"
    ∷ codes "access,0,0,W"
    ∷ codes "access,0,0,X"
    ∷ codes "access,0,0,rr"
    ∷ codes "access,0,0,r "
    ∷ codes "access,0,0, r"
    ∷ codes "access,0,0,a"
    ∷ codes "access,0,0,4"
    ∷ codes "access,0,0,r"
    ∷ codes "access,0,1000,w"
    ∷ codes "access,0,2000,x" ∷ [])
    ≡ shows
    (codes "1 refused BadRecord"
    ∷ codes "2 refused BadRecord"
    ∷ codes "3 refused BadRecord"
    ∷ codes "4 refused BadRecord"
    ∷ codes "5 refused BadRecord"
    ∷ codes "6 refused BadRecord"
    ∷ codes "7 refused BadRecord"
    ∷ codes "8 refused BadRecord"
    ∷ codes "9 access ok"
    ∷ codes "10 access ok"
    ∷ codes "11 access ok" ∷ [])
    (codes "0,0,0,rwx,R--,-"
    ∷ codes "0,1,1,rwx,RW-,-"
    ∷ codes "0,2,2,rwx,R-X,-" ∷ [])
    []

-- the names are exact bytes; a second header is no record
abbrev pub NamesOfRecords : Type 0
NamesOfRecords =
    row
    (codes "Send,0,1,c0,8,c7"
    ∷ codes "SEND,0,1,c0,8,c7"
    ∷ codes "sends,0,1,c0,8,c7"
    ∷ codes "sen,0,1,c0,8,c7"
    ∷ codes " send,0,1,c0,8,c7"
    ∷ codes "send ,0,1,c0,8,c7"
    ∷ codes "Unmap,0,0,c0"
    ∷ codes "unmaps,0,0,c0"
    ∷ codes "unma,0,0,c0"
    ∷ codes "accesses,0,0,r"
    ∷ codes "acces,0,0,r"
    ∷ codes ",0,0,r"
    ∷ codes "l4map,1,2,18,1"
    ∷ codes "clear,0" ∷ [])
    ≡ shows
    (codes "1 refused BadRecord"
    ∷ codes "2 refused BadRecord"
    ∷ codes "3 refused BadRecord"
    ∷ codes "4 refused BadRecord"
    ∷ codes "5 refused BadRecord"
    ∷ codes "6 refused BadRecord"
    ∷ codes "7 refused BadRecord"
    ∷ codes "8 refused BadRecord"
    ∷ codes "9 refused BadRecord"
    ∷ codes "10 refused BadRecord"
    ∷ codes "11 refused BadRecord"
    ∷ codes "12 refused BadRecord"
    ∷ codes "13 refused BadRecord"
    ∷ codes "14 refused BadRecord" ∷ [])
    []
    []

-- 1 to 5 digits and at most 65535 in each record: past it, with a digit more, empty, and with leading zeros
abbrev pub SpacesOfRecords : Type 0
SpacesOfRecords =
    row
    (codes "send,0,65536,c0,8,c7"
    ∷ codes "send,0,99999,c0,8,c7"
    ∷ codes "send,0,000001,c0,8,c7"
    ∷ codes "send,000000,1,c0,8,c7"
    ∷ codes "send,0,65535,c0,8,c7"
    ∷ codes "send,,1,c0,8,c7"
    ∷ codes "send,0,,c0,8,c7"
    ∷ codes "unmap,000000,0,c0"
    ∷ codes "unmap,99999,0,c0"
    ∷ codes "unmap,,0,c0"
    ∷ codes "access,99999,0,r"
    ∷ codes "access,,0,r"
    ∷ codes "send,00000,00001,c0,8,c7"
    ∷ codes "unmap,00001,0,c0" ∷ [])
    ≡ shows
    (codes "1 refused BadRecord"
    ∷ codes "2 refused BadRecord"
    ∷ codes "3 refused BadRecord"
    ∷ codes "4 refused BadRecord"
    ∷ codes "5 refused NoSuchSpace"
    ∷ codes "6 refused BadRecord"
    ∷ codes "7 refused BadRecord"
    ∷ codes "8 refused BadRecord"
    ∷ codes "9 refused BadRecord"
    ∷ codes "10 refused BadRecord"
    ∷ codes "11 refused BadRecord"
    ∷ codes "12 refused BadRecord"
    ∷ codes "13 send absent=0 norights=0 origin=0 lost=0 extended=0 linked=1"
    ∷ codes "14 unmap 000000c0" ∷ [])
    (codes "1,0,0,rwx,---,0:0" ∷ [])
    []

-- words of 7 and 8 digits are taken, of 9 and of none are not: window, item, control word, word, address
abbrev pub LengthsOfWords : Type 0
LengthsOfWords =
    row
    (codes "send,0,1,00000c0,8,c7"
    ∷ codes "send,0,2,000000c0,00000008,000000c7"
    ∷ codes "send,0,1,0000000c0,8,c7"
    ∷ codes "send,0,1,c0,000000008,c7"
    ∷ codes "send,0,1,c0,8,0000000c7"
    ∷ codes "unmap,0,00000000,000000c0"
    ∷ codes "unmap,0,0000000,00000c0"
    ∷ codes "unmap,0,000000000,c0"
    ∷ codes "unmap,0,0,0000000c0"
    ∷ codes "access,0,00000000,r"
    ∷ codes "access,0,000000000,r"
    ∷ codes "send,0,1,,8,c7"
    ∷ codes "send,0,1,c0,,c7"
    ∷ codes "send,0,1,c0,8,"
    ∷ codes "unmap,0,,c0"
    ∷ codes "unmap,0,0," ∷ [])
    ≡ shows
    (codes "1 send absent=0 norights=0 origin=0 lost=0 extended=0 linked=1"
    ∷ codes "2 send absent=0 norights=0 origin=0 lost=0 extended=0 linked=1"
    ∷ codes "3 refused BadRecord"
    ∷ codes "4 refused BadRecord"
    ∷ codes "5 refused BadRecord"
    ∷ codes "6 unmap 000000c0"
    ∷ codes "7 unmap 000000c0"
    ∷ codes "8 refused BadRecord"
    ∷ codes "9 refused BadRecord"
    ∷ codes "10 access ok"
    ∷ codes "11 refused BadRecord"
    ∷ codes "12 refused BadRecord"
    ∷ codes "13 refused BadRecord"
    ∷ codes "14 refused BadRecord"
    ∷ codes "15 refused BadRecord"
    ∷ codes "16 refused BadRecord" ∷ [])
    (codes "0,0,0,rwx,R--,-"
    ∷ codes "1,0,0,rwx,---,0:0"
    ∷ codes "2,0,0,rwx,---,0:0" ∷ [])
    []

-- a record cut off after each of its fields
abbrev pub FieldsMissing : Type 0
FieldsMissing =
    row
    (codes "send"
    ∷ codes "send,0"
    ∷ codes "send,0,1"
    ∷ codes "send,0,1,c0"
    ∷ codes "send,0,1,c0,8"
    ∷ codes "access"
    ∷ codes "access,0"
    ∷ codes "access,0,0"
    ∷ codes "unmap"
    ∷ codes "unmap,0" ∷ [])
    ≡ shows
    (codes "1 refused BadRecord"
    ∷ codes "2 refused BadRecord"
    ∷ codes "3 refused BadRecord"
    ∷ codes "4 refused BadRecord"
    ∷ codes "5 refused BadRecord"
    ∷ codes "6 refused BadRecord"
    ∷ codes "7 refused BadRecord"
    ∷ codes "8 refused BadRecord"
    ∷ codes "9 refused BadRecord"
    ∷ codes "10 refused BadRecord" ∷ [])
    []
    []

-- of two faults in one record the first of the order is told: form before words, words in order before spaces, spaces before the nilpage
abbrev pub RefusalsOfOneRecord : Type 0
RefusalsOfOneRecord =
    row
    (codes "send,65536,1,a7,6,a7,6"
    ∷ codes "send,0,0,a7,8,c7"
    ∷ codes "send,0,0,c0,6,c7"
    ∷ codes "send,0,3,0,8,c7"
    ∷ codes "send,3,1,7f7,8,c7"
    ∷ codes "send,3,3,10d7,8,400c7"
    ∷ codes "send,3,3,400c7,8,10d7"
    ∷ codes "send,3,3,c0,8,400c7,6,c7"
    ∷ codes "access,65536,40000,r"
    ∷ codes "access,3,40000,q"
    ∷ codes "unmap,3,0,10d7"
    ∷ codes "unmap,3,1,c0,c0,c0"
    ∷ codes "unmap,3,1,10d7,a7" ∷ [])
    ≡ shows
    (codes "1 refused BadRecord"
    ∷ codes "2 refused BadSize"
    ∷ codes "3 refused NotAnItem"
    ∷ codes "4 refused NoSuchSpace"
    ∷ codes "5 refused Misaligned"
    ∷ codes "6 refused Misaligned"
    ∷ codes "7 refused OutOfSpace"
    ∷ codes "8 refused OutOfSpace"
    ∷ codes "9 refused BadRecord"
    ∷ codes "10 refused BadRecord"
    ∷ codes "11 refused Misaligned"
    ∷ codes "12 refused BadControl"
    ∷ codes "13 refused Misaligned" ∷ [])
    []
    []
