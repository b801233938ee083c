-- Worked rows of whole runs: all that is written.
use Rattle.std.specs.Prelude.{◌≡◌, [], ◌∷◌, ◌++◌, codes, Ok}
use Rattle.model.specs.Definitions.Text.{output_of}
use Rattle.model.specs.Rows.Rows.{lines, times, shows, row, row_from, numbered}

-- a run whole: replies, mappings, the last line
abbrev pub WholeRun : Type 0
WholeRun =
    output_of (lines
    (codes "l4map,1,2,18,1"
    ∷ codes "send,0,1,10,3008,c6"
    ∷ codes "access,1,3abc,w"
    ∷ codes "unmap,0,0,c2" ∷ []))
    ≡ Ok (lines
    (codes "1 send absent=0 norights=0 origin=0 lost=0 extended=0 linked=1"
    ∷ codes "2 access ok"
    ∷ codes "3 unmap 000000c6"
    ∷ codes "0,0,0,rwx,---,-"
    ∷ codes "1,3,0,r--,---,0:0"
    ∷ codes "end 3 0" ∷ []))

-- the last page of a space of 2^32 bytes is mapped, written and asked for its status
abbrev pub RunOfLargestSpaces : Type 0
RunOfLargestSpaces =
    output_of (lines
    (codes "l4map,1,2,32,1"
    ∷ codes "send,0,1,10,fffff008,c6"
    ∷ codes "access,1,fffff123,w"
    ∷ codes "unmap,0,0,c2" ∷ []))
    ≡ Ok (lines
    (codes "1 send absent=0 norights=0 origin=0 lost=0 extended=0 linked=1"
    ∷ codes "2 access ok"
    ∷ codes "3 unmap 000000c6"
    ∷ codes "0,0,0,rwx,---,-"
    ∷ codes "1,1048575,0,r--,---,0:0"
    ∷ codes "end 3 0" ∷ []))

-- a run without records
abbrev pub RunOfHeaderAlone : Type 0
RunOfHeaderAlone =
    output_of (codes "l4map,1,2,18,2")
    ≡ Ok (lines
    (codes "0,0,0,rwx,---,-"
    ∷ codes "0,1,1,rwx,---,-"
    ∷ codes "end 0 0" ∷ []))

-- other line ends, and an input cut off in its last word
abbrev pub RunCutOff : Type 0
RunCutOff =
    output_of (codes "l4map,1,2,18,1" ++ 13 ∷ codes "access,0,0,x" ++ 10 ∷ 10 ∷ codes "unmap,0,0,50c")
    ≡ Ok (lines
    (codes "1 access ok"
    ∷ codes "2 refused Misaligned"
    ∷ codes "0,0,0,rwx,R-X,-"
    ∷ codes "end 2 1" ∷ []))

-- a fault is no refusal, and each refusal counts, of words and of others
abbrev pub RefusalsAreCounted : Type 0
RefusalsAreCounted =
    output_of (lines
    (codes "l4map,1,3,18,1"
    ∷ codes "access,1,0,r"
    ∷ codes "send,1,1,c0,8,c7"
    ∷ codes "send,0,3,c0,8,c7"
    ∷ codes "send,0,1,0,8,c7"
    ∷ codes "send,0,1,c0,6,c7"
    ∷ codes "send,0,1,c0,8,a7"
    ∷ codes "send,0,1,c0,8,10d7"
    ∷ codes "send,0,1,c0,8,400c7"
    ∷ codes "send,0,1,c0,8"
    ∷ codes "unmap,0,80,c0"
    ∷ codes "map,0,1" ∷ []))
    ≡ Ok (lines
    (codes "1 access fault"
    ∷ codes "2 refused SameSpace"
    ∷ codes "3 refused NoSuchSpace"
    ∷ codes "4 refused NoWindow"
    ∷ codes "5 refused NotAnItem"
    ∷ codes "6 refused BadSize"
    ∷ codes "7 refused Misaligned"
    ∷ codes "8 refused OutOfSpace"
    ∷ codes "9 refused BadRecord"
    ∷ codes "10 refused BadControl"
    ∷ codes "11 refused BadRecord"
    ∷ codes "0,0,0,rwx,---,-"
    ∷ codes "end 11 10" ∷ []))

-- twelve spaces of 4096 pages: numbers of two digits and more at each place, and the first space, page and byte past the end
abbrev pub NumbersOfTwelveSpaces : Type 0
NumbersOfTwelveSpaces =
    output_of (lines
    (codes "l4map,1,12,24,1"
    ∷ codes "send,0,11,10,fff008,c7"
    ∷ codes "access,11,ffffff,w"
    ∷ codes "access,11,1000000,r"
    ∷ codes "unmap,11,0,fff0c0"
    ∷ codes "send,11,10,c0,8,fff0c7"
    ∷ codes "access,12,0,r"
    ∷ codes "unmap,12,0,c0"
    ∷ codes "send,12,0,c0,8,c7"
    ∷ codes "send,0,12,c0,8,c7"
    ∷ codes "send,0,1,10000c0,8,c7"
    ∷ codes "send,0,1,c0,8,10000c7"
    ∷ codes "unmap,0,0,10000c7"
    ∷ codes "unmap,0,0,fff0c0" ∷ []))
    ≡ Ok (lines
    (codes "1 send absent=0 norights=0 origin=0 lost=0 extended=0 linked=1"
    ∷ codes "2 access ok"
    ∷ codes "3 refused OutOfSpace"
    ∷ codes "4 unmap 00fff0c6"
    ∷ codes "5 send absent=0 norights=0 origin=0 lost=0 extended=0 linked=1"
    ∷ codes "6 refused NoSuchSpace"
    ∷ codes "7 refused NoSuchSpace"
    ∷ codes "8 refused NoSuchSpace"
    ∷ codes "9 refused NoSuchSpace"
    ∷ codes "10 refused OutOfSpace"
    ∷ codes "11 refused OutOfSpace"
    ∷ codes "12 refused OutOfSpace"
    ∷ codes "13 unmap 00fff0c0"
    ∷ codes "0,0,0,rwx,RW-,-"
    ∷ codes "10,0,0,rwx,---,11:4095"
    ∷ codes "11,4095,0,rwx,---,0:0"
    ∷ codes "end 13 8" ∷ []))

-- 120 records, of which 101 are accesses and 19 are refused
abbrev pub LongRun : Type 0
LongRun =
    output_of (lines (codes "l4map,1,2,18,1" ∷ []) ++ times 101 (lines (codes "access,0,0,r" ∷ [])) ++ times 19 (lines (codes "clear,0" ∷ [])))
    ≡ Ok (numbered 1 101 (codes "access ok") ++ numbered 102 19 (codes "refused BadRecord")
    ++ lines (codes "0,0,0,rwx,R--,-" ∷ codes "end 120 19" ∷ []))

-- each hexadecimal digit in a word of a reply, from either case
abbrev pub HexadecimalDigits : Type 0
HexadecimalDigits =
    row_from (codes "l4map,1,2,24,1")
    (codes "unmap,1,1,1230c0,4560c0"
    ∷ codes "unmap,1,2,7890c0,abc0c0,def0c0"
    ∷ codes "unmap,1,1,DEF0C0,FAf0c0" ∷ [])
    ≡ shows
    (codes "1 unmap 001230c0 004560c0"
    ∷ codes "2 unmap 007890c0 00abc0c0 00def0c0"
    ∷ codes "3 unmap 00def0c0 00faf0c0" ∷ [])
    []
    []

-- each set of rights as it is written
abbrev pub EachSetOfRights : Type 0
EachSetOfRights =
    row
    (codes "send,0,1,10,1008,50c1,2008,50c2,3008,50c3,4008,50c4,5008,50c5,6008,50c6,7008,50c7" ∷ [])
    ≡ shows
    (codes "1 send absent=0 norights=0 origin=0 lost=0 extended=0 linked=7" ∷ [])
    (codes "1,1,5,--x,---,0:5"
    ∷ codes "1,2,5,-w-,---,0:5"
    ∷ codes "1,3,5,-wx,---,0:5"
    ∷ codes "1,4,5,r--,---,0:5"
    ∷ codes "1,5,5,r-x,---,0:5"
    ∷ codes "1,6,5,rw-,---,0:5"
    ∷ codes "1,7,5,rwx,---,0:5" ∷ [])
    []

-- a frame and an origin of three digits
abbrev pub FrameOfThreeDigits : Type 0
FrameOfThreeDigits =
    row_from (codes "l4map,1,2,19,128")
    (codes "send,0,1,10,5008,7f0c7" ∷ [])
    ≡ shows
    (codes "1 send absent=0 norights=0 origin=0 lost=0 extended=0 linked=1" ∷ [])
    (codes "1,5,127,rwx,---,0:127" ∷ [])
    []

-- counts of forty pairs
abbrev pub CountsOfManyPairs : Type 0
CountsOfManyPairs =
    row_from (codes "l4map,1,3,18,40")
    (codes "send,0,1,10,8,10"
    ∷ codes "send,0,1,10,8,17"
    ∷ codes "send,0,1,10,8,14"
    ∷ codes "send,1,0,10,8,17"
    ∷ codes "unmap,0,0,17" ∷ [])
    ≡ shows
    (codes "1 send absent=24 norights=40 origin=0 lost=0 extended=0 linked=0"
    ∷ codes "2 send absent=24 norights=0 origin=0 lost=0 extended=0 linked=40"
    ∷ codes "3 send absent=24 norights=0 origin=0 lost=0 extended=40 linked=0"
    ∷ codes "4 send absent=24 norights=0 origin=40 lost=0 extended=0 linked=0"
    ∷ codes "5 unmap 00000010" ∷ [])
    []
    []

-- 32 pairs that go, of which the flush takes the sources of 16
abbrev pub SixteenPairsAreLost : Type 0
SixteenPairsAreLost =
    row
    (codes "send,0,1,100,8,107"
    ∷ codes "send,1,2,10100,8,107"
    ∷ codes "send,0,2,100,8,107"
    ∷ codes "send,2,1,110,8,117"
    ∷ codes "unmap,0,0,17" ∷ [])
    ≡ shows
    (codes "1 send absent=0 norights=0 origin=0 lost=0 extended=0 linked=16"
    ∷ codes "2 send absent=0 norights=0 origin=0 lost=0 extended=0 linked=16"
    ∷ codes "3 send absent=0 norights=0 origin=0 lost=0 extended=0 linked=16"
    ∷ codes "4 send absent=0 norights=0 origin=0 lost=16 extended=0 linked=16"
    ∷ codes "5 unmap 00000010" ∷ [])
    []
    []

-- a status of one, two and three letters
abbrev pub StatusAsItIsWritten : Type 0
StatusAsItIsWritten =
    row
    (codes "access,0,0,r"
    ∷ codes "access,0,1000,w"
    ∷ codes "access,0,2000,x"
    ∷ codes "access,0,3000,w"
    ∷ codes "access,0,3000,x" ∷ [])
    ≡ shows
    (codes "1 access ok"
    ∷ codes "2 access ok"
    ∷ codes "3 access ok"
    ∷ codes "4 access ok"
    ∷ codes "5 access ok" ∷ [])
    (codes "0,0,0,rwx,R--,-"
    ∷ codes "0,1,1,rwx,RW-,-"
    ∷ codes "0,2,2,rwx,R-X,-"
    ∷ codes "0,3,3,rwx,RWX,-" ∷ [])
    []
