-- Worked rows of unmaps: which rights are lost, and where status goes.
use Rattle.std.specs.Prelude.{◌≡◌, [], ◌∷◌, codes}
use Rattle.model.specs.Rows.Rows.{shows, row}

-- what derives loses the right, the caller's page keeps it
abbrev pub UnmapNarrowsDerivedAlone : Type 0
UnmapNarrowsDerivedAlone =
    row
    (codes "send,0,1,c0,8,50c7"
    ∷ codes "send,1,2,c0,8,c7"
    ∷ codes "unmap,0,0,50c2" ∷ [])
    ≡ shows
    (codes "1 send absent=0 norights=0 origin=0 lost=0 extended=0 linked=1"
    ∷ codes "2 send absent=0 norights=0 origin=0 lost=0 extended=0 linked=1"
    ∷ codes "3 unmap 000050c0" ∷ [])
    (codes "1,0,5,r-x,---,0:5"
    ∷ codes "2,0,5,r-x,---,1:0" ∷ [])
    []

-- status is taken once, and then by the origin outside
abbrev pub StatusGoesToOutsideOrigin : Type 0
StatusGoesToOutsideOrigin =
    row
    (codes "send,0,1,c0,8,50c7"
    ∷ codes "send,1,2,c0,8,c7"
    ∷ codes "access,2,0,w"
    ∷ codes "unmap,1,0,10"
    ∷ codes "unmap,1,0,10"
    ∷ codes "unmap,0,0,10" ∷ [])
    ≡ shows
    (codes "1 send absent=0 norights=0 origin=0 lost=0 extended=0 linked=1"
    ∷ codes "2 send absent=0 norights=0 origin=0 lost=0 extended=0 linked=1"
    ∷ codes "3 access ok"
    ∷ codes "4 unmap 00000016"
    ∷ codes "5 unmap 00000010"
    ∷ codes "6 unmap 00000016" ∷ [])
    (codes "1,0,5,rwx,---,0:5"
    ∷ codes "2,0,5,rwx,---,1:0" ∷ [])
    []

-- a mapping that derives in the caller's own space loses the right too
abbrev pub NestedMappingInOwnSpace : Type 0
NestedMappingInOwnSpace =
    row
    (codes "send,0,1,c0,8,50c7"
    ∷ codes "send,1,2,c0,8,c7"
    ∷ codes "send,2,1,30c0,8,c7"
    ∷ codes "unmap,1,0,12" ∷ [])
    ≡ shows
    (codes "1 send absent=0 norights=0 origin=0 lost=0 extended=0 linked=1"
    ∷ codes "2 send absent=0 norights=0 origin=0 lost=0 extended=0 linked=1"
    ∷ codes "3 send absent=0 norights=0 origin=0 lost=0 extended=0 linked=1"
    ∷ codes "4 unmap 00000010" ∷ [])
    (codes "1,0,5,rwx,---,0:5"
    ∷ codes "1,3,5,r-x,---,2:0"
    ∷ codes "2,0,5,r-x,---,1:0" ∷ [])
    []

-- two branches add their status to one origin
abbrev pub BranchesAddToOneOrigin : Type 0
BranchesAddToOneOrigin =
    row
    (codes "send,0,1,c0,8,50c7"
    ∷ codes "send,0,1,30c0,8,50c7"
    ∷ codes "access,1,0,r"
    ∷ codes "access,1,3000,x"
    ∷ codes "unmap,1,0,10"
    ∷ codes "unmap,0,0,50c0" ∷ [])
    ≡ shows
    (codes "1 send absent=0 norights=0 origin=0 lost=0 extended=0 linked=1"
    ∷ codes "2 send absent=0 norights=0 origin=0 lost=0 extended=0 linked=1"
    ∷ codes "3 access ok"
    ∷ codes "4 access ok"
    ∷ codes "5 unmap 00000015"
    ∷ codes "6 unmap 000050c5" ∷ [])
    (codes "1,0,5,rwx,---,0:5"
    ∷ codes "1,3,5,rwx,---,0:5" ∷ [])
    []

-- a control word that names two words where one comes; then two nilpages, one of them with bit 3
abbrev pub UnmapOfNilpage : Type 0
UnmapOfNilpage =
    row
    (codes "unmap,1,1,10"
    ∷ codes "unmap,1,0,0"
    ∷ codes "unmap,1,0,f" ∷ [])
    ≡ shows
    (codes "1 refused BadControl"
    ∷ codes "2 unmap 00000000"
    ∷ codes "3 unmap 00000008" ∷ [])
    []
    []

-- the roots lose all rights, and all that derives from them is gone with them
abbrev pub CompleteUnmapRemovesAll : Type 0
CompleteUnmapRemovesAll =
    row
    (codes "send,0,1,c0,8,50c7"
    ∷ codes "send,1,2,c0,8,c7"
    ∷ codes "unmap,0,40,17" ∷ [])
    ≡ shows
    (codes "1 send absent=0 norights=0 origin=0 lost=0 extended=0 linked=1"
    ∷ codes "2 send absent=0 norights=0 origin=0 lost=0 extended=0 linked=1"
    ∷ codes "3 unmap 00000010" ∷ [])
    []
    (0 ∷ 1 ∷ 2 ∷ 3 ∷ 4 ∷ 5 ∷ 6 ∷ 7 ∷ 8 ∷ 9 ∷ 10 ∷ 11 ∷ 12 ∷ 13 ∷ 14 ∷ 15 ∷ [])

-- two words with f set revoke all rights of a page between them, and its status is answered once
abbrev pub FlushByTwoWords : Type 0
FlushByTwoWords =
    row
    (codes "send,0,1,c0,8,50c7"
    ∷ codes "send,1,2,c0,8,c7"
    ∷ codes "access,2,0,x"
    ∷ codes "unmap,1,41,c2,c5" ∷ [])
    ≡ shows
    (codes "1 send absent=0 norights=0 origin=0 lost=0 extended=0 linked=1"
    ∷ codes "2 send absent=0 norights=0 origin=0 lost=0 extended=0 linked=1"
    ∷ codes "3 access ok"
    ∷ codes "4 unmap 000000c5 000000c0" ∷ [])
    (codes "0,5,5,rwx,R-X,-" ∷ [])
    []

-- two words name the same page and revoke a right each
abbrev pub TwoWordsInOrder : Type 0
TwoWordsInOrder =
    row
    (codes "send,0,1,c0,8,50c7"
    ∷ codes "send,1,2,c0,8,c7"
    ∷ codes "unmap,0,1,50c2,50c4" ∷ [])
    ≡ shows
    (codes "1 send absent=0 norights=0 origin=0 lost=0 extended=0 linked=1"
    ∷ codes "2 send absent=0 norights=0 origin=0 lost=0 extended=0 linked=1"
    ∷ codes "3 unmap 000050c0 000050c0" ∷ [])
    (codes "1,0,5,--x,---,0:5"
    ∷ codes "2,0,5,--x,---,1:0" ∷ [])
    []

-- the status of a root has no origin to go to; a word that names the page again finds it clear
abbrev pub StatusOfRootEnds : Type 0
StatusOfRootEnds =
    row
    (codes "access,0,5000,w"
    ∷ codes "access,0,6000,x"
    ∷ codes "unmap,0,2,50c0,40e0,50c0"
    ∷ codes "unmap,0,40,50c1" ∷ [])
    ≡ shows
    (codes "1 access ok"
    ∷ codes "2 access ok"
    ∷ codes "3 unmap 000050c6 000040e5 000050c0"
    ∷ codes "4 unmap 000050c0" ∷ [])
    (codes "0,5,5,rw-,---,-" ∷ [])
    []

-- a word without rights takes the status and no right, with f set too
abbrev pub StatusAlone : Type 0
StatusAlone =
    row
    (codes "send,0,1,c0,8,50c7"
    ∷ codes "send,1,2,c0,8,c7"
    ∷ codes "access,2,0,w"
    ∷ codes "unmap,1,40,10" ∷ [])
    ≡ shows
    (codes "1 send absent=0 norights=0 origin=0 lost=0 extended=0 linked=1"
    ∷ codes "2 send absent=0 norights=0 origin=0 lost=0 extended=0 linked=1"
    ∷ codes "3 access ok"
    ∷ codes "4 unmap 00000016" ∷ [])
    (codes "0,5,5,rwx,RW-,-"
    ∷ codes "1,0,5,rwx,---,0:5"
    ∷ codes "2,0,5,rwx,---,1:0" ∷ [])
    []

-- an origin gains the status below the pages named, and not that of its other mappings
abbrev pub SiblingKeepsItsStatus : Type 0
SiblingKeepsItsStatus =
    row
    (codes "send,0,1,c0,8,50c7"
    ∷ codes "send,0,2,c0,8,50c7"
    ∷ codes "access,1,0,r"
    ∷ codes "access,2,0,x"
    ∷ codes "unmap,1,40,14" ∷ [])
    ≡ shows
    (codes "1 send absent=0 norights=0 origin=0 lost=0 extended=0 linked=1"
    ∷ codes "2 send absent=0 norights=0 origin=0 lost=0 extended=0 linked=1"
    ∷ codes "3 access ok"
    ∷ codes "4 access ok"
    ∷ codes "5 unmap 00000014" ∷ [])
    (codes "0,5,5,rwx,R--,-"
    ∷ codes "1,0,5,-wx,---,0:5"
    ∷ codes "2,0,5,rwx,R-X,0:5" ∷ [])
    []

-- with f set the caller loses the right too, and its origin does not
abbrev pub FlushNarrowsCaller : Type 0
FlushNarrowsCaller =
    row
    (codes "send,0,1,c0,8,50c7"
    ∷ codes "send,1,2,c0,8,c7"
    ∷ codes "unmap,1,40,12" ∷ [])
    ≡ shows
    (codes "1 send absent=0 norights=0 origin=0 lost=0 extended=0 linked=1"
    ∷ codes "2 send absent=0 norights=0 origin=0 lost=0 extended=0 linked=1"
    ∷ codes "3 unmap 00000010" ∷ [])
    (codes "1,0,5,r-x,---,0:5"
    ∷ codes "2,0,5,r-x,---,1:0" ∷ [])
    []

-- no page that the words name is held by the caller
abbrev pub UnmapOfNothingHeld : Type 0
UnmapOfNothingHeld =
    row
    (codes "send,0,1,c0,8,50c7"
    ∷ codes "send,1,2,c0,8,c7"
    ∷ codes "access,2,0,x"
    ∷ codes "unmap,1,40,80d7"
    ∷ codes "unmap,2,41,20d7,0" ∷ [])
    ≡ shows
    (codes "1 send absent=0 norights=0 origin=0 lost=0 extended=0 linked=1"
    ∷ codes "2 send absent=0 norights=0 origin=0 lost=0 extended=0 linked=1"
    ∷ codes "3 access ok"
    ∷ codes "4 unmap 000080d0"
    ∷ codes "5 unmap 000020d0 00000000" ∷ [])
    (codes "1,0,5,rwx,---,0:5"
    ∷ codes "2,0,5,rwx,R-X,1:0" ∷ [])
    []

-- status goes to the origin of the page that is named, and no further
abbrev pub StatusGoesOneOriginUp : Type 0
StatusGoesOneOriginUp =
    row
    (codes "send,0,1,c0,8,50c7"
    ∷ codes "send,1,2,c0,8,c7"
    ∷ codes "access,2,0,w"
    ∷ codes "unmap,2,0,c0" ∷ [])
    ≡ shows
    (codes "1 send absent=0 norights=0 origin=0 lost=0 extended=0 linked=1"
    ∷ codes "2 send absent=0 norights=0 origin=0 lost=0 extended=0 linked=1"
    ∷ codes "3 access ok"
    ∷ codes "4 unmap 000000c6" ∷ [])
    (codes "1,0,5,rwx,RW-,0:5"
    ∷ codes "2,0,5,rwx,---,1:0" ∷ [])
    []

-- two pages by one word, without flush and with; the pages beside them stay, with their status
abbrev pub WordsOfSeveralPages : Type 0
WordsOfSeveralPages =
    row
    (codes "access,0,4000,w"
    ∷ codes "access,0,6000,x"
    ∷ codes "send,0,1,40e0,8,40e7"
    ∷ codes "access,1,5000,w"
    ∷ codes "unmap,0,0,40d1"
    ∷ codes "unmap,1,40,60d4" ∷ [])
    ≡ shows
    (codes "1 access ok"
    ∷ codes "2 access ok"
    ∷ codes "3 send absent=0 norights=0 origin=0 lost=0 extended=0 linked=4"
    ∷ codes "4 access ok"
    ∷ codes "5 unmap 000040d6"
    ∷ codes "6 unmap 000060d0" ∷ [])
    (codes "0,6,6,rwx,R-X,-"
    ∷ codes "1,4,4,rw-,---,0:4"
    ∷ codes "1,5,5,rw-,---,0:5"
    ∷ codes "1,6,6,-wx,---,0:6"
    ∷ codes "1,7,7,-wx,---,0:7" ∷ [])
    []

-- each right revoked alone, and two of three
abbrev pub EachRightRevoked : Type 0
EachRightRevoked =
    row
    (codes "send,0,1,40e0,8,40e7"
    ∷ codes "unmap,0,3,40c4,50c2,60c1,70c5" ∷ [])
    ≡ shows
    (codes "1 send absent=0 norights=0 origin=0 lost=0 extended=0 linked=4"
    ∷ codes "2 unmap 000040c0 000050c0 000060c0 000070c0" ∷ [])
    (codes "1,4,4,-wx,---,0:4"
    ∷ codes "1,5,5,r-x,---,0:5"
    ∷ codes "1,6,6,rw-,---,0:6"
    ∷ codes "1,7,7,-w-,---,0:7" ∷ [])
    []

-- a mapping goes where it loses its last right; one that has another right stays, and one that has not the right keeps all
abbrev pub MappingsLeftWithoutRights : Type 0
MappingsLeftWithoutRights =
    row
    (codes "send,0,1,c0,8,50c4"
    ∷ codes "send,0,1,10c0,8,50c6"
    ∷ codes "send,0,1,20c0,8,50c3"
    ∷ codes "unmap,0,0,50c4" ∷ [])
    ≡ shows
    (codes "1 send absent=0 norights=0 origin=0 lost=0 extended=0 linked=1"
    ∷ codes "2 send absent=0 norights=0 origin=0 lost=0 extended=0 linked=1"
    ∷ codes "3 send absent=0 norights=0 origin=0 lost=0 extended=0 linked=1"
    ∷ codes "4 unmap 000050c0" ∷ [])
    (codes "1,1,5,-w-,---,0:5"
    ∷ codes "1,2,5,-wx,---,0:5" ∷ [])
    []

-- what derives from the named page goes; the page itself, and a branch beside it, stay
abbrev pub BranchBesideStays : Type 0
BranchBesideStays =
    row
    (codes "send,0,1,c0,8,50c7"
    ∷ codes "send,1,2,c0,8,c7"
    ∷ codes "send,0,1,10c0,8,50c7"
    ∷ codes "send,1,2,10c0,8,10c7"
    ∷ codes "access,2,1000,x"
    ∷ codes "unmap,1,0,c7" ∷ [])
    ≡ shows
    (codes "1 send absent=0 norights=0 origin=0 lost=0 extended=0 linked=1"
    ∷ codes "2 send absent=0 norights=0 origin=0 lost=0 extended=0 linked=1"
    ∷ codes "3 send absent=0 norights=0 origin=0 lost=0 extended=0 linked=1"
    ∷ codes "4 send absent=0 norights=0 origin=0 lost=0 extended=0 linked=1"
    ∷ codes "5 access ok"
    ∷ codes "6 unmap 000000c0" ∷ [])
    (codes "1,0,5,rwx,---,0:5"
    ∷ codes "1,1,5,rwx,---,0:5"
    ∷ codes "2,1,5,rwx,R-X,1:1" ∷ [])
    []

-- five mappings deep, in two spaces: rights are lost at each, and status comes from the last
abbrev pub DeepChainIsNarrowed : Type 0
DeepChainIsNarrowed =
    row
    (codes "send,0,1,c0,8,50c7"
    ∷ codes "send,1,2,c0,8,c7"
    ∷ codes "send,2,1,10c0,8,c7"
    ∷ codes "send,1,2,10c0,8,10c7"
    ∷ codes "send,2,1,20c0,8,10c7"
    ∷ codes "access,1,2000,x"
    ∷ codes "unmap,0,0,50c2" ∷ [])
    ≡ shows
    (codes "1 send absent=0 norights=0 origin=0 lost=0 extended=0 linked=1"
    ∷ codes "2 send absent=0 norights=0 origin=0 lost=0 extended=0 linked=1"
    ∷ codes "3 send absent=0 norights=0 origin=0 lost=0 extended=0 linked=1"
    ∷ codes "4 send absent=0 norights=0 origin=0 lost=0 extended=0 linked=1"
    ∷ codes "5 send absent=0 norights=0 origin=0 lost=0 extended=0 linked=1"
    ∷ codes "6 access ok"
    ∷ codes "7 unmap 000050c5" ∷ [])
    (codes "1,0,5,r-x,---,0:5"
    ∷ codes "1,1,5,r-x,---,2:0"
    ∷ codes "1,2,5,r-x,---,2:1"
    ∷ codes "2,0,5,r-x,---,1:0"
    ∷ codes "2,1,5,r-x,---,1:1" ∷ [])
    []

-- a flush of all rights removes two pages of one origin, which gains what both had seen
abbrev pub RemovedPagesPassStatusOn : Type 0
RemovedPagesPassStatusOn =
    row
    (codes "send,0,1,c0,8,50c7"
    ∷ codes "send,0,1,10c0,8,50c7"
    ∷ codes "send,1,2,c0,8,c7"
    ∷ codes "access,1,1000,x"
    ∷ codes "access,2,0,w"
    ∷ codes "unmap,1,40,17" ∷ [])
    ≡ shows
    (codes "1 send absent=0 norights=0 origin=0 lost=0 extended=0 linked=1"
    ∷ codes "2 send absent=0 norights=0 origin=0 lost=0 extended=0 linked=1"
    ∷ codes "3 send absent=0 norights=0 origin=0 lost=0 extended=0 linked=1"
    ∷ codes "4 access ok"
    ∷ codes "5 access ok"
    ∷ codes "6 unmap 00000017" ∷ [])
    (codes "0,5,5,rwx,RWX,-" ∷ [])
    []

-- two pages that derive from two: each origin gains what its own had seen
abbrev pub UnmapOfTwoOrigins : Type 0
UnmapOfTwoOrigins =
    row
    (codes "send,0,1,c0,8,50c7"
    ∷ codes "send,0,1,10c0,8,60c7"
    ∷ codes "access,1,0,r"
    ∷ codes "access,1,1000,x"
    ∷ codes "unmap,1,0,10" ∷ [])
    ≡ shows
    (codes "1 send absent=0 norights=0 origin=0 lost=0 extended=0 linked=1"
    ∷ codes "2 send absent=0 norights=0 origin=0 lost=0 extended=0 linked=1"
    ∷ codes "3 access ok"
    ∷ codes "4 access ok"
    ∷ codes "5 unmap 00000015" ∷ [])
    (codes "0,5,5,rwx,R--,-"
    ∷ codes "0,6,6,rwx,R-X,-"
    ∷ codes "1,0,5,rwx,---,0:5"
    ∷ codes "1,1,6,rwx,---,0:6" ∷ [])
    []
