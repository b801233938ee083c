-- Worked rows of sends: what becomes of each pair, and how it is counted.
use Rattle.std.specs.Prelude.{◌≡◌, [], ◌∷◌, codes}
use Rattle.model.specs.Rows.Rows.{shows, row}

-- one item whose pairs have five of the six outcomes
abbrev pub EachOutcome : Type 0
EachOutcome =
    row
    (codes "send,0,1,10c0,8,10c4"
    ∷ codes "send,0,2,20c0,8,20c7"
    ∷ codes "send,2,1,20c0,8,20c7"
    ∷ codes "send,0,1,30c0,8,30c7"
    ∷ codes "send,1,2,30c0,8,30c4"
    ∷ codes "send,0,1,40c0,8,40c7"
    ∷ codes "send,1,2,f0,8,f2" ∷ [])
    ≡ shows
    (codes "1 send absent=0 norights=0 origin=0 lost=0 extended=0 linked=1"
    ∷ codes "2 send absent=0 norights=0 origin=0 lost=0 extended=0 linked=1"
    ∷ codes "3 send absent=0 norights=0 origin=0 lost=0 extended=0 linked=1"
    ∷ codes "4 send absent=0 norights=0 origin=0 lost=0 extended=0 linked=1"
    ∷ codes "5 send absent=0 norights=0 origin=0 lost=0 extended=0 linked=1"
    ∷ codes "6 send absent=0 norights=0 origin=0 lost=0 extended=0 linked=1"
    ∷ codes "7 send absent=4 norights=1 origin=1 lost=0 extended=1 linked=1" ∷ [])
    (codes "1,1,1,r--,---,0:1"
    ∷ codes "1,2,2,rwx,---,2:2"
    ∷ codes "1,3,3,rwx,---,0:3"
    ∷ codes "1,4,4,rwx,---,0:4"
    ∷ codes "2,2,2,rwx,---,0:2"
    ∷ codes "2,3,3,rw-,---,1:3"
    ∷ codes "2,4,4,-w-,---,1:4" ∷ [])
    []

-- no right is left of the source's
abbrev pub WithheldRightsAreNoRights : Type 0
WithheldRightsAreNoRights =
    row
    (codes "send,0,1,10,8,50c6"
    ∷ codes "send,1,2,10,8,c1" ∷ [])
    ≡ shows
    (codes "1 send absent=0 norights=0 origin=0 lost=0 extended=0 linked=1"
    ∷ codes "2 send absent=0 norights=1 origin=0 lost=0 extended=0 linked=0" ∷ [])
    (codes "1,0,5,rw-,---,0:5" ∷ [])
    []

-- a pair without a right in common is norights, where the target is an origin of the source or derives from it too
abbrev pub NoRightsComesFirst : Type 0
NoRightsComesFirst =
    row
    (codes "send,0,1,c0,8,50c7"
    ∷ codes "send,1,2,c0,8,c7"
    ∷ codes "send,2,1,c0,8,c0"
    ∷ codes "send,0,1,c0,8,50c0"
    ∷ codes "send,0,1,c0,a,50c0" ∷ [])
    ≡ shows
    (codes "1 send absent=0 norights=0 origin=0 lost=0 extended=0 linked=1"
    ∷ codes "2 send absent=0 norights=0 origin=0 lost=0 extended=0 linked=1"
    ∷ codes "3 send absent=0 norights=1 origin=0 lost=0 extended=0 linked=0"
    ∷ codes "4 send absent=0 norights=1 origin=0 lost=0 extended=0 linked=0"
    ∷ codes "5 send absent=0 norights=1 origin=0 lost=0 extended=0 linked=0" ∷ [])
    (codes "1,0,5,rwx,---,0:5"
    ∷ codes "2,0,5,rwx,---,1:0" ∷ [])
    []

-- an origin of the source is left alone
abbrev pub OriginIsNotReplaced : Type 0
OriginIsNotReplaced =
    row
    (codes "send,0,1,c0,8,50c7"
    ∷ codes "send,1,2,c0,8,c7"
    ∷ codes "send,2,1,c0,8,c7" ∷ [])
    ≡ shows
    (codes "1 send absent=0 norights=0 origin=0 lost=0 extended=0 linked=1"
    ∷ codes "2 send absent=0 norights=0 origin=0 lost=0 extended=0 linked=1"
    ∷ codes "3 send absent=0 norights=0 origin=1 lost=0 extended=0 linked=0" ∷ [])
    (codes "1,0,5,rwx,---,0:5"
    ∷ codes "2,0,5,rwx,---,1:0" ∷ [])
    []

-- an origin at a distance is left alone, by a grant too
abbrev pub DistantOriginIsNotReplaced : Type 0
DistantOriginIsNotReplaced =
    row
    (codes "send,0,1,c0,8,50c7"
    ∷ codes "send,1,2,c0,8,c7"
    ∷ codes "send,2,0,50c0,8,c7"
    ∷ codes "send,2,0,50c0,a,c7"
    ∷ codes "send,2,1,c0,a,c7" ∷ [])
    ≡ shows
    (codes "1 send absent=0 norights=0 origin=0 lost=0 extended=0 linked=1"
    ∷ codes "2 send absent=0 norights=0 origin=0 lost=0 extended=0 linked=1"
    ∷ codes "3 send absent=0 norights=0 origin=1 lost=0 extended=0 linked=0"
    ∷ codes "4 send absent=0 norights=0 origin=1 lost=0 extended=0 linked=0"
    ∷ codes "5 send absent=0 norights=0 origin=1 lost=0 extended=0 linked=0" ∷ [])
    (codes "1,0,5,rwx,---,0:5"
    ∷ codes "2,0,5,rwx,---,1:0" ∷ [])
    []

-- a mapping that derives from the source through others is replaced
abbrev pub DistantDerivedIsReplaced : Type 0
DistantDerivedIsReplaced =
    row
    (codes "send,0,1,c0,8,50c7"
    ∷ codes "send,1,2,c0,8,c7"
    ∷ codes "send,2,1,30c0,8,c7"
    ∷ codes "send,1,2,40c0,8,30c7"
    ∷ codes "send,1,2,40c0,8,c4" ∷ [])
    ≡ shows
    (codes "1 send absent=0 norights=0 origin=0 lost=0 extended=0 linked=1"
    ∷ codes "2 send absent=0 norights=0 origin=0 lost=0 extended=0 linked=1"
    ∷ codes "3 send absent=0 norights=0 origin=0 lost=0 extended=0 linked=1"
    ∷ codes "4 send absent=0 norights=0 origin=0 lost=0 extended=0 linked=1"
    ∷ codes "5 send absent=0 norights=0 origin=0 lost=0 extended=0 linked=1" ∷ [])
    (codes "1,0,5,rwx,---,0:5"
    ∷ codes "1,3,5,rwx,---,2:0"
    ∷ codes "2,0,5,rwx,---,1:0"
    ∷ codes "2,4,5,r--,---,1:0" ∷ [])
    []

-- a source that the flush removes is lost
abbrev pub FlushedSourceIsLost : Type 0
FlushedSourceIsLost =
    row
    (codes "send,0,1,10c0,8,50c7"
    ∷ codes "send,1,2,c0,8,10c7"
    ∷ codes "send,0,2,10c0,8,70c7"
    ∷ codes "send,2,1,d0,8,d7" ∷ [])
    ≡ shows
    (codes "1 send absent=0 norights=0 origin=0 lost=0 extended=0 linked=1"
    ∷ codes "2 send absent=0 norights=0 origin=0 lost=0 extended=0 linked=1"
    ∷ codes "3 send absent=0 norights=0 origin=0 lost=0 extended=0 linked=1"
    ∷ codes "4 send absent=0 norights=0 origin=0 lost=1 extended=0 linked=1" ∷ [])
    (codes "1,1,7,rwx,---,2:1"
    ∷ codes "2,1,7,rwx,---,0:7" ∷ [])
    []

-- a pair that extends is lost too, where the flush takes its source
abbrev pub ExtendingPairIsLost : Type 0
ExtendingPairIsLost =
    row
    (codes "send,0,2,10c0,8,50c7"
    ∷ codes "send,2,1,c0,8,10c7"
    ∷ codes "send,1,2,c0,8,c7"
    ∷ codes "send,0,1,10c0,8,70c7"
    ∷ codes "send,1,2,d0,8,d7" ∷ [])
    ≡ shows
    (codes "1 send absent=0 norights=0 origin=0 lost=0 extended=0 linked=1"
    ∷ codes "2 send absent=0 norights=0 origin=0 lost=0 extended=0 linked=1"
    ∷ codes "3 send absent=0 norights=0 origin=0 lost=0 extended=0 linked=1"
    ∷ codes "4 send absent=0 norights=0 origin=0 lost=0 extended=0 linked=1"
    ∷ codes "5 send absent=0 norights=0 origin=0 lost=1 extended=0 linked=1" ∷ [])
    (codes "1,1,7,rwx,---,0:7"
    ∷ codes "2,1,7,rwx,---,1:1" ∷ [])
    []

-- the held target of a pair that goes is flushed, also where the pair is lost
abbrev pub TargetOfLostPairIsGone : Type 0
TargetOfLostPairIsGone =
    row
    (codes "send,0,1,10c0,8,50c7"
    ∷ codes "send,1,2,c0,8,10c7"
    ∷ codes "send,0,2,10c0,8,70c7"
    ∷ codes "send,0,1,c0,8,60c7"
    ∷ codes "access,1,0,w"
    ∷ codes "send,2,1,d0,8,d7" ∷ [])
    ≡ shows
    (codes "1 send absent=0 norights=0 origin=0 lost=0 extended=0 linked=1"
    ∷ codes "2 send absent=0 norights=0 origin=0 lost=0 extended=0 linked=1"
    ∷ codes "3 send absent=0 norights=0 origin=0 lost=0 extended=0 linked=1"
    ∷ codes "4 send absent=0 norights=0 origin=0 lost=0 extended=0 linked=1"
    ∷ codes "5 access ok"
    ∷ codes "6 send absent=0 norights=0 origin=0 lost=1 extended=0 linked=1" ∷ [])
    (codes "0,6,6,rwx,RW-,-"
    ∷ codes "1,1,7,rwx,---,2:1"
    ∷ codes "2,1,7,rwx,---,0:7" ∷ [])
    []

-- the second item widens what the first one linked
abbrev pub TwoItemsInOrder : Type 0
TwoItemsInOrder =
    row
    (codes "send,0,1,10,8,50c6,8,50c1" ∷ [])
    ≡ shows
    (codes "1 send absent=0 norights=0 origin=0 lost=0 extended=1 linked=1" ∷ [])
    (codes "1,0,5,rwx,---,0:5" ∷ [])
    []

-- the outcomes of an item are those of what the items before it left
abbrev pub SecondItemSeesFirst : Type 0
SecondItemSeesFirst =
    row
    (codes "send,0,1,c0,a,50c7,8,50c7"
    ∷ codes "send,1,2,c0,8,c7,a,c7" ∷ [])
    ≡ shows
    (codes "1 send absent=1 norights=0 origin=0 lost=0 extended=0 linked=1"
    ∷ codes "2 send absent=0 norights=0 origin=0 lost=0 extended=0 linked=2" ∷ [])
    (codes "2,0,5,rwx,---,-" ∷ [])
    (5 ∷ [])

-- a source that is not held is absent: without a right in common too, and where the target is held
abbrev pub AbsentComesFirst : Type 0
AbsentComesFirst =
    row
    (codes "send,0,1,200c0,8,50c7"
    ∷ codes "send,0,1,10,8,10"
    ∷ codes "send,0,1,200c0,8,200c7"
    ∷ codes "send,0,1,200c0,a,200c7" ∷ [])
    ≡ shows
    (codes "1 send absent=0 norights=0 origin=0 lost=0 extended=0 linked=1"
    ∷ codes "2 send absent=48 norights=16 origin=0 lost=0 extended=0 linked=0"
    ∷ codes "3 send absent=1 norights=0 origin=0 lost=0 extended=0 linked=0"
    ∷ codes "4 send absent=1 norights=0 origin=0 lost=0 extended=0 linked=0" ∷ [])
    (codes "1,32,5,rwx,---,0:5" ∷ [])
    []

-- an origin at a distance of four, three, two and one, by a map and by a grant
abbrev pub OriginAtEachDistance : Type 0
OriginAtEachDistance =
    row
    (codes "send,0,1,c0,8,50c7"
    ∷ codes "send,1,2,c0,8,c7"
    ∷ codes "send,2,1,10c0,8,c7"
    ∷ codes "send,1,2,10c0,8,10c7"
    ∷ codes "send,2,0,50c0,8,10c7"
    ∷ codes "send,2,0,50c0,a,10c7"
    ∷ codes "send,2,1,c0,8,10c7"
    ∷ codes "send,2,1,c0,a,10c7"
    ∷ codes "send,2,0,50c0,8,c7"
    ∷ codes "send,2,0,50c0,a,c7"
    ∷ codes "send,1,2,c0,8,10c7"
    ∷ codes "send,1,2,c0,a,10c7" ∷ [])
    ≡ shows
    (codes "1 send absent=0 norights=0 origin=0 lost=0 extended=0 linked=1"
    ∷ codes "2 send absent=0 norights=0 origin=0 lost=0 extended=0 linked=1"
    ∷ codes "3 send absent=0 norights=0 origin=0 lost=0 extended=0 linked=1"
    ∷ codes "4 send absent=0 norights=0 origin=0 lost=0 extended=0 linked=1"
    ∷ codes "5 send absent=0 norights=0 origin=1 lost=0 extended=0 linked=0"
    ∷ codes "6 send absent=0 norights=0 origin=1 lost=0 extended=0 linked=0"
    ∷ codes "7 send absent=0 norights=0 origin=1 lost=0 extended=0 linked=0"
    ∷ codes "8 send absent=0 norights=0 origin=1 lost=0 extended=0 linked=0"
    ∷ codes "9 send absent=0 norights=0 origin=1 lost=0 extended=0 linked=0"
    ∷ codes "10 send absent=0 norights=0 origin=1 lost=0 extended=0 linked=0"
    ∷ codes "11 send absent=0 norights=0 origin=1 lost=0 extended=0 linked=0"
    ∷ codes "12 send absent=0 norights=0 origin=1 lost=0 extended=0 linked=0" ∷ [])
    (codes "1,0,5,rwx,---,0:5"
    ∷ codes "1,1,5,rwx,---,2:0"
    ∷ codes "2,0,5,rwx,---,1:0"
    ∷ codes "2,1,5,rwx,---,1:1" ∷ [])
    []

-- an origin at a distance of eight
abbrev pub OriginOfEightMappings : Type 0
OriginOfEightMappings =
    row
    (codes "send,0,1,c0,8,50c7"
    ∷ codes "send,1,2,c0,8,c7"
    ∷ codes "send,2,1,10c0,8,c7"
    ∷ codes "send,1,2,10c0,8,10c7"
    ∷ codes "send,2,1,20c0,8,10c7"
    ∷ codes "send,1,2,20c0,8,20c7"
    ∷ codes "send,2,1,30c0,8,20c7"
    ∷ codes "send,1,2,30c0,8,30c7"
    ∷ codes "send,2,0,50c0,8,30c7" ∷ [])
    ≡ shows
    (codes "1 send absent=0 norights=0 origin=0 lost=0 extended=0 linked=1"
    ∷ codes "2 send absent=0 norights=0 origin=0 lost=0 extended=0 linked=1"
    ∷ codes "3 send absent=0 norights=0 origin=0 lost=0 extended=0 linked=1"
    ∷ codes "4 send absent=0 norights=0 origin=0 lost=0 extended=0 linked=1"
    ∷ codes "5 send absent=0 norights=0 origin=0 lost=0 extended=0 linked=1"
    ∷ codes "6 send absent=0 norights=0 origin=0 lost=0 extended=0 linked=1"
    ∷ codes "7 send absent=0 norights=0 origin=0 lost=0 extended=0 linked=1"
    ∷ codes "8 send absent=0 norights=0 origin=0 lost=0 extended=0 linked=1"
    ∷ codes "9 send absent=0 norights=0 origin=1 lost=0 extended=0 linked=0" ∷ [])
    (codes "1,0,5,rwx,---,0:5"
    ∷ codes "1,1,5,rwx,---,2:0"
    ∷ codes "1,2,5,rwx,---,2:1"
    ∷ codes "1,3,5,rwx,---,2:2"
    ∷ codes "2,0,5,rwx,---,1:0"
    ∷ codes "2,1,5,rwx,---,1:1"
    ∷ codes "2,2,5,rwx,---,1:2"
    ∷ codes "2,3,5,rwx,---,1:3" ∷ [])
    []

-- a pair without a right in common is norights, where the flush takes its source too
abbrev pub NoRightsOfFlushedSource : Type 0
NoRightsOfFlushedSource =
    row
    (codes "send,0,1,10c0,8,50c7"
    ∷ codes "send,0,1,c0,8,50c7"
    ∷ codes "send,1,2,10c0,8,c4"
    ∷ codes "send,0,2,c0,8,60c7"
    ∷ codes "send,2,1,d0,8,d2" ∷ [])
    ≡ shows
    (codes "1 send absent=0 norights=0 origin=0 lost=0 extended=0 linked=1"
    ∷ codes "2 send absent=0 norights=0 origin=0 lost=0 extended=0 linked=1"
    ∷ codes "3 send absent=0 norights=0 origin=0 lost=0 extended=0 linked=1"
    ∷ codes "4 send absent=0 norights=0 origin=0 lost=0 extended=0 linked=1"
    ∷ codes "5 send absent=0 norights=1 origin=0 lost=0 extended=0 linked=1" ∷ [])
    (codes "1,0,6,-w-,---,2:0"
    ∷ codes "1,1,5,rwx,---,0:5"
    ∷ codes "2,0,6,rwx,---,0:6" ∷ [])
    []

-- a pair whose target is an origin is told so, where the flush takes its source too
abbrev pub OriginOfFlushedSource : Type 0
OriginOfFlushedSource =
    row
    (codes "send,0,1,10c0,8,50c7"
    ∷ codes "send,1,2,50c0,8,10c7"
    ∷ codes "send,2,1,c0,8,50c7"
    ∷ codes "send,1,2,10c0,8,c7"
    ∷ codes "send,0,2,c0,8,60c7"
    ∷ codes "send,2,1,d0,8,d7" ∷ [])
    ≡ shows
    (codes "1 send absent=0 norights=0 origin=0 lost=0 extended=0 linked=1"
    ∷ codes "2 send absent=0 norights=0 origin=0 lost=0 extended=0 linked=1"
    ∷ codes "3 send absent=0 norights=0 origin=0 lost=0 extended=0 linked=1"
    ∷ codes "4 send absent=0 norights=0 origin=0 lost=0 extended=0 linked=1"
    ∷ codes "5 send absent=0 norights=0 origin=0 lost=0 extended=0 linked=1"
    ∷ codes "6 send absent=0 norights=0 origin=1 lost=0 extended=0 linked=1" ∷ [])
    (codes "1,0,6,rwx,---,2:0"
    ∷ codes "1,1,5,rwx,---,0:5"
    ∷ codes "2,0,6,rwx,---,0:6"
    ∷ codes "2,5,5,rwx,---,1:1" ∷ [])
    []

-- an item without pages, and one whose target is an origin
abbrev pub SecondItemTellsOrigin : Type 0
SecondItemTellsOrigin =
    row
    (codes "send,0,1,c0,8,50c7"
    ∷ codes "send,1,2,c0,8,c7"
    ∷ codes "send,2,1,c0,8,0,8,c7" ∷ [])
    ≡ shows
    (codes "1 send absent=0 norights=0 origin=0 lost=0 extended=0 linked=1"
    ∷ codes "2 send absent=0 norights=0 origin=0 lost=0 extended=0 linked=1"
    ∷ codes "3 send absent=0 norights=0 origin=1 lost=0 extended=0 linked=0" ∷ [])
    (codes "1,0,5,rwx,---,0:5"
    ∷ codes "2,0,5,rwx,---,1:0" ∷ [])
    []

-- each count of two items or more; in the last send each item loses a pair
abbrev pub CountsOfItemsAddUp : Type 0
CountsOfItemsAddUp =
    row
    (codes "send,0,1,10,8,50c7,1008,60c7"
    ∷ codes "send,0,1,10,8,50c7,1008,60c6,8,50c4"
    ∷ codes "send,0,1,10,8,10,8,10"
    ∷ codes "send,1,0,10,5008,c7,6008,10c7"
    ∷ codes "unmap,0,0,17"
    ∷ codes "send,0,1,10c0,8,50c7"
    ∷ codes "send,1,2,c0,8,10c7"
    ∷ codes "send,0,2,10c0,8,70c7"
    ∷ codes "send,0,1,30c0,8,40c7"
    ∷ codes "send,1,2,20c0,8,30c7"
    ∷ codes "send,0,2,30c0,8,60c7"
    ∷ codes "send,2,1,10,8,d7,2008,20d7" ∷ [])
    ≡ shows
    (codes "1 send absent=0 norights=0 origin=0 lost=0 extended=0 linked=2"
    ∷ codes "2 send absent=0 norights=0 origin=0 lost=0 extended=3 linked=0"
    ∷ codes "3 send absent=96 norights=32 origin=0 lost=0 extended=0 linked=0"
    ∷ codes "4 send absent=0 norights=0 origin=2 lost=0 extended=0 linked=0"
    ∷ codes "5 unmap 00000010"
    ∷ codes "6 send absent=0 norights=0 origin=0 lost=0 extended=0 linked=1"
    ∷ codes "7 send absent=0 norights=0 origin=0 lost=0 extended=0 linked=1"
    ∷ codes "8 send absent=0 norights=0 origin=0 lost=0 extended=0 linked=1"
    ∷ codes "9 send absent=0 norights=0 origin=0 lost=0 extended=0 linked=1"
    ∷ codes "10 send absent=0 norights=0 origin=0 lost=0 extended=0 linked=1"
    ∷ codes "11 send absent=0 norights=0 origin=0 lost=0 extended=0 linked=1"
    ∷ codes "12 send absent=0 norights=0 origin=0 lost=2 extended=0 linked=2" ∷ [])
    (codes "1,1,7,rwx,---,2:1"
    ∷ codes "1,3,6,rwx,---,2:3"
    ∷ codes "2,1,7,rwx,---,0:7"
    ∷ codes "2,3,6,rwx,---,0:6" ∷ [])
    []
