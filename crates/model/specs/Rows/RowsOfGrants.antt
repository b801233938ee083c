-- Worked rows of GrantItems: what moves, and what is lost by it.
use Rattle.std.specs.Prelude.{◌≡◌, [], ◌∷◌, codes}
use Rattle.model.specs.Rows.Rows.{shows, row}

-- what derived from a granted page derives from its new place, and the withheld rights are gone from both
abbrev pub GrantMovesAndNarrows : Type 0
GrantMovesAndNarrows =
    row
    (codes "send,0,1,c0,8,50c7"
    ∷ codes "send,1,2,c0,8,c7"
    ∷ codes "send,1,2,40c0,a,c4" ∷ [])
    ≡ shows
    (codes "1 send absent=0 norights=0 origin=0 lost=0 extended=0 linked=1"
    ∷ codes "2 send absent=0 norights=0 origin=0 lost=0 extended=0 linked=1"
    ∷ codes "3 send absent=0 norights=0 origin=0 lost=0 extended=0 linked=1" ∷ [])
    (codes "2,0,5,r--,---,2:4"
    ∷ codes "2,4,5,r--,---,0:5" ∷ [])
    []

-- two pages of one chain are granted at once
abbrev pub GrantRenamesAllAtOnce : Type 0
GrantRenamesAllAtOnce =
    row
    (codes "send,0,1,c0,8,50c7"
    ∷ codes "send,1,2,c0,8,c7"
    ∷ codes "send,2,1,30c0,8,c7"
    ∷ codes "send,1,2,40e0,a,e7" ∷ [])
    ≡ shows
    (codes "1 send absent=0 norights=0 origin=0 lost=0 extended=0 linked=1"
    ∷ codes "2 send absent=0 norights=0 origin=0 lost=0 extended=0 linked=1"
    ∷ codes "3 send absent=0 norights=0 origin=0 lost=0 extended=0 linked=1"
    ∷ codes "4 send absent=2 norights=0 origin=0 lost=0 extended=0 linked=2" ∷ [])
    (codes "2,0,5,rwx,---,2:4"
    ∷ codes "2,4,5,rwx,---,0:5"
    ∷ codes "2,7,5,rwx,---,2:0" ∷ [])
    []

-- a root is granted
abbrev pub RootIsGranted : Type 0
RootIsGranted =
    row
    (codes "send,0,1,10,a,50c7" ∷ [])
    ≡ shows
    (codes "1 send absent=0 norights=0 origin=0 lost=0 extended=0 linked=1" ∷ [])
    (codes "1,0,5,rwx,---,-" ∷ [])
    (5 ∷ [])

-- a grant replaces its target with what derives from it
abbrev pub GrantReplacesTarget : Type 0
GrantReplacesTarget =
    row
    (codes "send,0,1,c0,8,50c7"
    ∷ codes "send,1,2,c0,8,c7"
    ∷ codes "send,0,1,10,a,70c7" ∷ [])
    ≡ shows
    (codes "1 send absent=0 norights=0 origin=0 lost=0 extended=0 linked=1"
    ∷ codes "2 send absent=0 norights=0 origin=0 lost=0 extended=0 linked=1"
    ∷ codes "3 send absent=0 norights=0 origin=0 lost=0 extended=0 linked=1" ∷ [])
    (codes "1,0,7,rwx,---,-" ∷ [])
    (7 ∷ [])

-- a grant onto a mapping that derives from its source goes
abbrev pub GrantOntoOwnDerived : Type 0
GrantOntoOwnDerived =
    row
    (codes "send,0,1,10,8,50c7"
    ∷ codes "send,0,1,10,a,50c6" ∷ [])
    ≡ shows
    (codes "1 send absent=0 norights=0 origin=0 lost=0 extended=0 linked=1"
    ∷ codes "2 send absent=0 norights=0 origin=0 lost=0 extended=0 linked=1" ∷ [])
    (codes "1,0,5,rw-,---,-" ∷ [])
    (5 ∷ [])

-- a grant whose source the flush removes moves nothing
abbrev pub GrantOfFlushedSourceIsLost : Type 0
GrantOfFlushedSourceIsLost =
    row
    (codes "send,0,1,10c0,8,50c7"
    ∷ codes "send,1,2,c0,8,10c7"
    ∷ codes "send,0,2,10c0,8,70c7"
    ∷ codes "send,2,1,d0,a,d7" ∷ [])
    ≡ shows
    (codes "1 send absent=0 norights=0 origin=0 lost=0 extended=0 linked=1"
    ∷ codes "2 send absent=0 norights=0 origin=0 lost=0 extended=0 linked=1"
    ∷ codes "3 send absent=0 norights=0 origin=0 lost=0 extended=0 linked=1"
    ∷ codes "4 send absent=0 norights=0 origin=0 lost=1 extended=0 linked=1" ∷ [])
    (codes "1,1,7,rwx,---,0:7" ∷ [])
    []

-- a mapping with withheld rights alone is gone when its origin is granted
abbrev pub GrantRemovesWhatIsWithheld : Type 0
GrantRemovesWhatIsWithheld =
    row
    (codes "send,0,1,c0,8,50c7"
    ∷ codes "send,1,2,c0,8,c2"
    ∷ codes "send,1,2,40c0,a,c4" ∷ [])
    ≡ shows
    (codes "1 send absent=0 norights=0 origin=0 lost=0 extended=0 linked=1"
    ∷ codes "2 send absent=0 norights=0 origin=0 lost=0 extended=0 linked=1"
    ∷ codes "3 send absent=0 norights=0 origin=0 lost=0 extended=0 linked=1" ∷ [])
    (codes "2,4,5,r--,---,0:5" ∷ [])
    []

-- a grant that withholds nothing too: the status of the page and of what derives from it goes to its origin
abbrev pub GrantPassesStatusOn : Type 0
GrantPassesStatusOn =
    row
    (codes "send,0,1,c0,8,50c7"
    ∷ codes "send,1,2,c0,8,c7"
    ∷ codes "access,2,0,w"
    ∷ codes "access,1,0,x"
    ∷ codes "send,1,2,40c0,a,c7" ∷ [])
    ≡ shows
    (codes "1 send absent=0 norights=0 origin=0 lost=0 extended=0 linked=1"
    ∷ codes "2 send absent=0 norights=0 origin=0 lost=0 extended=0 linked=1"
    ∷ codes "3 access ok"
    ∷ codes "4 access ok"
    ∷ codes "5 send absent=0 norights=0 origin=0 lost=0 extended=0 linked=1" ∷ [])
    (codes "0,5,5,rwx,RWX,-"
    ∷ codes "2,0,5,rwx,---,2:4"
    ∷ codes "2,4,5,rwx,---,0:5" ∷ [])
    []

-- the send base counts as in a MapItem: in a larger window, and in a larger fpage
abbrev pub SendBasesOfGrants : Type 0
SendBasesOfGrants =
    row
    (codes "send,0,1,10,900a,50c7"
    ∷ codes "send,0,1,80c0,200a,40e7" ∷ [])
    ≡ shows
    (codes "1 send absent=0 norights=0 origin=0 lost=0 extended=0 linked=1"
    ∷ codes "2 send absent=0 norights=0 origin=0 lost=0 extended=0 linked=1" ∷ [])
    (codes "1,8,6,rwx,---,-"
    ∷ codes "1,9,5,rwx,---,-" ∷ [])
    (5 ∷ 6 ∷ [])

-- the status of a target that a grant replaces, and of what derives from it, goes to its origin
abbrev pub GrantPassesStatusOfTarget : Type 0
GrantPassesStatusOfTarget =
    row
    (codes "send,0,1,c0,8,50c7"
    ∷ codes "send,1,2,c0,8,c7"
    ∷ codes "access,2,0,w"
    ∷ codes "access,1,0,x"
    ∷ codes "send,0,1,10,a,70c7" ∷ [])
    ≡ shows
    (codes "1 send absent=0 norights=0 origin=0 lost=0 extended=0 linked=1"
    ∷ codes "2 send absent=0 norights=0 origin=0 lost=0 extended=0 linked=1"
    ∷ codes "3 access ok"
    ∷ codes "4 access ok"
    ∷ codes "5 send absent=0 norights=0 origin=0 lost=0 extended=0 linked=1" ∷ [])
    (codes "0,5,5,rwx,RWX,-"
    ∷ codes "1,0,7,rwx,---,-" ∷ [])
    (7 ∷ [])

-- what the flush passed to a source goes on to the source's origin
abbrev pub GrantOntoOwnDerivedPassesStatus : Type 0
GrantOntoOwnDerivedPassesStatus =
    row
    (codes "send,0,1,c0,8,50c7"
    ∷ codes "send,1,2,c0,8,c7"
    ∷ codes "access,2,0,w"
    ∷ codes "send,1,2,10,a,c7" ∷ [])
    ≡ shows
    (codes "1 send absent=0 norights=0 origin=0 lost=0 extended=0 linked=1"
    ∷ codes "2 send absent=0 norights=0 origin=0 lost=0 extended=0 linked=1"
    ∷ codes "3 access ok"
    ∷ codes "4 send absent=0 norights=0 origin=0 lost=0 extended=0 linked=1" ∷ [])
    (codes "0,5,5,rwx,RW-,-"
    ∷ codes "2,0,5,rwx,---,0:5" ∷ [])
    []

-- a grant that withholds rights leaves the status of pages that it does not move
abbrev pub GrantLeavesOtherStatus : Type 0
GrantLeavesOtherStatus =
    row
    (codes "access,0,3000,r"
    ∷ codes "send,0,1,c0,8,50c7"
    ∷ codes "send,0,1,30c0,8,30c7"
    ∷ codes "access,1,3000,x"
    ∷ codes "send,1,2,c0,a,c4" ∷ [])
    ≡ shows
    (codes "1 access ok"
    ∷ codes "2 send absent=0 norights=0 origin=0 lost=0 extended=0 linked=1"
    ∷ codes "3 send absent=0 norights=0 origin=0 lost=0 extended=0 linked=1"
    ∷ codes "4 access ok"
    ∷ codes "5 send absent=0 norights=0 origin=0 lost=0 extended=0 linked=1" ∷ [])
    (codes "0,3,3,rwx,R--,-"
    ∷ codes "1,3,3,rwx,R-X,0:3"
    ∷ codes "2,0,5,r--,---,0:5" ∷ [])
    []

-- two mappings that derive from a granted page, in two spaces
abbrev pub GrantRenamesEachOrigin : Type 0
GrantRenamesEachOrigin =
    row
    (codes "send,0,1,c0,8,50c7"
    ∷ codes "send,1,2,c0,8,c7"
    ∷ codes "send,1,0,200c0,8,c7"
    ∷ codes "send,1,2,40c0,a,c6" ∷ [])
    ≡ shows
    (codes "1 send absent=0 norights=0 origin=0 lost=0 extended=0 linked=1"
    ∷ codes "2 send absent=0 norights=0 origin=0 lost=0 extended=0 linked=1"
    ∷ codes "3 send absent=0 norights=0 origin=0 lost=0 extended=0 linked=1"
    ∷ codes "4 send absent=0 norights=0 origin=0 lost=0 extended=0 linked=1" ∷ [])
    (codes "0,32,5,rw-,---,2:4"
    ∷ codes "2,0,5,rw-,---,2:4"
    ∷ codes "2,4,5,rw-,---,0:5" ∷ [])
    []

-- four pages, of which one is not held, one has none of the rights, one derives from the target, one is free to go
abbrev pub GrantOfSeveralPages : Type 0
GrantOfSeveralPages =
    row
    (codes "send,0,1,c0,8,50c7"
    ∷ codes "send,0,1,20c0,8,60c3"
    ∷ codes "send,0,2,30c0,8,70c7"
    ∷ codes "send,2,1,30c0,8,30c7"
    ∷ codes "access,1,0,w"
    ∷ codes "send,1,2,e0,a,e4" ∷ [])
    ≡ shows
    (codes "1 send absent=0 norights=0 origin=0 lost=0 extended=0 linked=1"
    ∷ codes "2 send absent=0 norights=0 origin=0 lost=0 extended=0 linked=1"
    ∷ codes "3 send absent=0 norights=0 origin=0 lost=0 extended=0 linked=1"
    ∷ codes "4 send absent=0 norights=0 origin=0 lost=0 extended=0 linked=1"
    ∷ codes "5 access ok"
    ∷ codes "6 send absent=1 norights=1 origin=1 lost=0 extended=0 linked=1" ∷ [])
    (codes "0,5,5,rwx,RW-,-"
    ∷ codes "1,2,6,-wx,---,0:6"
    ∷ codes "1,3,7,rwx,---,2:3"
    ∷ codes "2,0,5,r--,---,0:5"
    ∷ codes "2,3,7,rwx,---,0:7" ∷ [])
    []
