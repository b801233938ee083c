-- Worked rows of clears, in traces of version 2: which mappings are gone, and where status goes.
use Rattle.std.specs.Prelude.{◌≡◌, [], ◌∷◌, codes, Ok}
use Rattle.model.specs.Definitions.Text.{output_of}
use Rattle.model.specs.Rows.Rows.{lines, shows, row, row_from}

-- a space in the middle of a chain is cleared: what it held is gone, and so is what derives from it; a space that is not
-- there, and a record without a space
abbrev pub ClearTakesWhatDerives : Type 0
ClearTakesWhatDerives =
    row_from (codes "l4map,2,3,18,16")
    (codes "send,0,1,c0,8,50c7"
    ∷ codes "send,1,2,c0,8,c7"
    ∷ codes "access,2,0,w"
    ∷ codes "clear,1"
    ∷ codes "clear,3"
    ∷ codes "clear" ∷ [])
    ≡ shows
    (codes "1 send absent=0 norights=0 origin=0 lost=0 extended=0 linked=1"
    ∷ codes "2 send absent=0 norights=0 origin=0 lost=0 extended=0 linked=1"
    ∷ codes "3 access ok"
    ∷ codes "4 clear 00000016"
    ∷ codes "5 refused NoSuchSpace"
    ∷ codes "6 refused BadRecord" ∷ [])
    (codes "0,5,5,rwx,RW-,-" ∷ [])
    []

-- in version 1 each of these is a bad record
abbrev pub NoClearInVersion1 : Type 0
NoClearInVersion1 =
    row
    (codes "send,0,1,c0,8,50c7"
    ∷ codes "send,1,2,c0,8,c7"
    ∷ codes "access,2,0,w"
    ∷ codes "clear,1"
    ∷ codes "clear,3"
    ∷ codes "clear" ∷ [])
    ≡ shows
    (codes "1 send absent=0 norights=0 origin=0 lost=0 extended=0 linked=1"
    ∷ codes "2 send absent=0 norights=0 origin=0 lost=0 extended=0 linked=1"
    ∷ codes "3 access ok"
    ∷ codes "4 refused BadRecord"
    ∷ codes "5 refused BadRecord"
    ∷ codes "6 refused BadRecord" ∷ [])
    (codes "1,0,5,rwx,---,0:5"
    ∷ codes "2,0,5,rwx,RW-,1:0" ∷ [])
    []

-- a clear is no refusal, and a clear that is refused is one
abbrev pub RunWithClears : Type 0
RunWithClears =
    output_of (lines
    (codes "l4map,2,3,18,2"
    ∷ codes "send,0,1,c0,8,10c5"
    ∷ codes "send,1,2,c0,8,c5"
    ∷ codes "access,2,fff,x"
    ∷ codes "clear,1"
    ∷ codes "clear,4"
    ∷ codes "clear,2" ∷ []))
    ≡ Ok (lines
    (codes "1 send absent=0 norights=0 origin=0 lost=0 extended=0 linked=1"
    ∷ codes "2 send absent=0 norights=0 origin=0 lost=0 extended=0 linked=1"
    ∷ codes "3 access ok"
    ∷ codes "4 clear 00000015"
    ∷ codes "5 refused NoSuchSpace"
    ∷ codes "6 clear 00000010"
    ∷ codes "0,0,0,rwx,---,-"
    ∷ codes "0,1,1,rwx,R-X,-"
    ∷ codes "end 6 1" ∷ []))

-- space 0 is cleared, of whose two frames one was granted away and one was mapped on
abbrev pub ClearSparesGranted : Type 0
ClearSparesGranted =
    row_from (codes "l4map,2,3,18,2")
    (codes "send,0,1,10,a,c7"
    ∷ codes "send,0,2,10,8,10c7"
    ∷ codes "access,2,0,w"
    ∷ codes "access,1,0,x"
    ∷ codes "clear,0" ∷ [])
    ≡ shows
    (codes "1 send absent=0 norights=0 origin=0 lost=0 extended=0 linked=1"
    ∷ codes "2 send absent=0 norights=0 origin=0 lost=0 extended=0 linked=1"
    ∷ codes "3 access ok"
    ∷ codes "4 access ok"
    ∷ codes "5 clear 00000016" ∷ [])
    (codes "1,0,0,rwx,R-X,-" ∷ [])
    (0 ∷ 1 ∷ [])

-- a space that holds nothing is cleared
abbrev pub ClearOfEmptySpace : Type 0
ClearOfEmptySpace =
    row_from (codes "l4map,2,3,18,16")
    (codes "send,0,1,c0,8,50c7"
    ∷ codes "access,1,0,r"
    ∷ codes "clear,2" ∷ [])
    ≡ shows
    (codes "1 send absent=0 norights=0 origin=0 lost=0 extended=0 linked=1"
    ∷ codes "2 access ok"
    ∷ codes "3 clear 00000010" ∷ [])
    (codes "1,0,5,rwx,R--,0:5" ∷ [])
    []

-- a mapping of the space derives from another one of the space, through a third space
abbrev pub ClearTakesNestedMapping : Type 0
ClearTakesNestedMapping =
    row_from (codes "l4map,2,3,18,16")
    (codes "send,0,1,c0,8,50c7"
    ∷ codes "send,1,2,c0,8,c7"
    ∷ codes "send,2,1,30c0,8,c7"
    ∷ codes "access,1,3000,x"
    ∷ codes "access,2,0,w"
    ∷ codes "clear,1" ∷ [])
    ≡ shows
    (codes "1 send absent=0 norights=0 origin=0 lost=0 extended=0 linked=1"
    ∷ codes "2 send absent=0 norights=0 origin=0 lost=0 extended=0 linked=1"
    ∷ codes "3 send absent=0 norights=0 origin=0 lost=0 extended=0 linked=1"
    ∷ codes "4 access ok"
    ∷ codes "5 access ok"
    ∷ codes "6 clear 00000017" ∷ [])
    (codes "0,5,5,rwx,RWX,-" ∷ [])
    []

-- pages of the space come from two pages of space 0, and one, which was granted back, from a page of the space itself
abbrev pub ClearPassesStatusToEachOrigin : Type 0
ClearPassesStatusToEachOrigin =
    row_from (codes "l4map,2,3,18,16")
    (codes "send,0,1,c0,8,50c7"
    ∷ codes "send,1,2,c0,8,c7"
    ∷ codes "send,2,1,40c0,a,c7"
    ∷ codes "send,0,1,60c0,8,60c7"
    ∷ codes "access,1,4000,w"
    ∷ codes "access,1,6000,x"
    ∷ codes "access,1,0,r"
    ∷ codes "clear,1" ∷ [])
    ≡ shows
    (codes "1 send absent=0 norights=0 origin=0 lost=0 extended=0 linked=1"
    ∷ codes "2 send absent=0 norights=0 origin=0 lost=0 extended=0 linked=1"
    ∷ codes "3 send absent=0 norights=0 origin=0 lost=0 extended=0 linked=1"
    ∷ codes "4 send absent=0 norights=0 origin=0 lost=0 extended=0 linked=1"
    ∷ codes "5 access ok"
    ∷ codes "6 access ok"
    ∷ codes "7 access ok"
    ∷ codes "8 clear 00000017" ∷ [])
    (codes "0,5,5,rwx,RW-,-"
    ∷ codes "0,6,6,rwx,R-X,-" ∷ [])
    []

-- accesses in a row before and behind a clear
abbrev pub AccessesRoundClear : Type 0
AccessesRoundClear =
    row_from (codes "l4map,2,3,18,16")
    (codes "send,0,1,c0,8,50c7"
    ∷ codes "access,1,0,r"
    ∷ codes "access,1,ffc,x"
    ∷ codes "clear,1"
    ∷ codes "access,1,0,r"
    ∷ codes "access,0,5000,w" ∷ [])
    ≡ shows
    (codes "1 send absent=0 norights=0 origin=0 lost=0 extended=0 linked=1"
    ∷ codes "2 access ok"
    ∷ codes "3 access ok"
    ∷ codes "4 clear 00000015"
    ∷ codes "5 access fault"
    ∷ codes "6 access ok" ∷ [])
    (codes "0,5,5,rwx,RWX,-" ∷ [])
    []

-- only the pages of the space, and what derives from them, are gone: not what another space holds of its origin, nor a
-- page that has its number in another space; without w, or without r, they are gone too
abbrev pub ClearLeavesOtherSpaces : Type 0
ClearLeavesOtherSpaces =
    row_from (codes "l4map,2,3,18,16")
    (codes "send,0,2,10,a008,50c7"
    ∷ codes "send,0,1,10,a008,50c5"
    ∷ codes "send,0,1,10,b008,60c3"
    ∷ codes "send,0,2,10,b008,70c7"
    ∷ codes "access,1,b000,w"
    ∷ codes "access,2,a000,r"
    ∷ codes "clear,1"
    ∷ codes "access,2,b000,x" ∷ [])
    ≡ shows
    (codes "1 send absent=0 norights=0 origin=0 lost=0 extended=0 linked=1"
    ∷ codes "2 send absent=0 norights=0 origin=0 lost=0 extended=0 linked=1"
    ∷ codes "3 send absent=0 norights=0 origin=0 lost=0 extended=0 linked=1"
    ∷ codes "4 send absent=0 norights=0 origin=0 lost=0 extended=0 linked=1"
    ∷ codes "5 access ok"
    ∷ codes "6 access ok"
    ∷ codes "7 clear 00000016"
    ∷ codes "8 access ok" ∷ [])
    (codes "0,6,6,rwx,RW-,-"
    ∷ codes "2,10,5,rwx,R--,0:5"
    ∷ codes "2,11,7,rwx,R-X,0:7" ∷ [])
    []

-- every frame is still space 0's: all is gone
abbrev pub ClearOfFirstSpace : Type 0
ClearOfFirstSpace =
    row_from (codes "l4map,2,2,18,3")
    (codes "send,0,1,10,8,d7"
    ∷ codes "access,1,0,r"
    ∷ codes "access,0,1000,x"
    ∷ codes "clear,0"
    ∷ codes "clear,0"
    ∷ codes "access,0,0,r" ∷ [])
    ≡ shows
    (codes "1 send absent=0 norights=0 origin=0 lost=0 extended=0 linked=2"
    ∷ codes "2 access ok"
    ∷ codes "3 access ok"
    ∷ codes "4 clear 00000015"
    ∷ codes "5 clear 00000010"
    ∷ codes "6 access fault" ∷ [])
    []
    (0 ∷ 1 ∷ 2 ∷ [])

-- a number too long or too large, a field more, none, other bytes, another name; zeros before a number, and quotes
abbrev pub FormsOfClears : Type 0
FormsOfClears =
    row_from (codes "l4map,2,12,18,1")
    (codes "clear,000010"
    ∷ codes "clear,65536"
    ∷ codes "clear,65535"
    ∷ codes "clear,12"
    ∷ codes "clear,1,"
    ∷ codes "clear,1,2"
    ∷ codes "clear,"
    ∷ codes "clear,a"
    ∷ codes "clear,+1"
    ∷ codes "clear, 1"
    ∷ codes "Clear,1"
    ∷ codes "clears,1"
    ∷ codes "clea,1"
    ∷ codes "clear,00011"
    ∷ codes "\"clear\",\"1\"" ∷ [])
    ≡ shows
    (codes "1 refused BadRecord"
    ∷ codes "2 refused BadRecord"
    ∷ codes "3 refused NoSuchSpace"
    ∷ codes "4 refused NoSuchSpace"
    ∷ codes "5 refused BadRecord"
    ∷ codes "6 refused BadRecord"
    ∷ codes "7 refused BadRecord"
    ∷ codes "8 refused BadRecord"
    ∷ codes "9 refused BadRecord"
    ∷ codes "10 refused BadRecord"
    ∷ codes "11 refused BadRecord"
    ∷ codes "12 refused BadRecord"
    ∷ codes "13 refused BadRecord"
    ∷ codes "14 clear 00000010"
    ∷ codes "15 clear 00000010" ∷ [])
    []
    []
