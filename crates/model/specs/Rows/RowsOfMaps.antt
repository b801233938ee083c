-- Worked rows of MapItems: what the receiver holds afterwards.
use Rattle.std.specs.Prelude.{◌≡◌, [], ◌∷◌, codes}
use Rattle.model.specs.Rows.Rows.{shows, row}

-- a second map from the same page widens
abbrev pub SecondMapExtends : Type 0
SecondMapExtends =
    row
    (codes "send,0,1,10,8,50c6"
    ∷ codes "send,0,1,10,8,50c1" ∷ [])
    ≡ shows
    (codes "1 send absent=0 norights=0 origin=0 lost=0 extended=0 linked=1"
    ∷ codes "2 send absent=0 norights=0 origin=0 lost=0 extended=1 linked=0" ∷ [])
    (codes "1,0,5,rwx,---,0:5" ∷ [])
    []

-- a replaced target goes with what derives from it
abbrev pub ReplacedTargetTakesItsDerived : Type 0
ReplacedTargetTakesItsDerived =
    row
    (codes "send,0,1,c0,8,50c7"
    ∷ codes "send,1,2,c0,8,c7"
    ∷ codes "send,0,1,10,8,70c7" ∷ [])
    ≡ shows
    (codes "1 send absent=0 norights=0 origin=0 lost=0 extended=0 linked=1"
    ∷ codes "2 send absent=0 norights=0 origin=0 lost=0 extended=0 linked=1"
    ∷ codes "3 send absent=0 norights=0 origin=0 lost=0 extended=0 linked=1" ∷ [])
    (codes "1,0,7,rwx,---,0:7" ∷ [])
    []

-- a new mapping has no status; one that is extended keeps its own, and what derives from it stays as it was
abbrev pub ExtendKeepsStatusAndDerived : Type 0
ExtendKeepsStatusAndDerived =
    row
    (codes "access,0,5000,w"
    ∷ codes "send,0,1,c0,8,50c6"
    ∷ codes "send,1,2,c0,8,c7"
    ∷ codes "access,1,0,r"
    ∷ codes "send,0,1,c0,8,50c1"
    ∷ codes "send,0,1,c0,8,50c4" ∷ [])
    ≡ shows
    (codes "1 access ok"
    ∷ codes "2 send absent=0 norights=0 origin=0 lost=0 extended=0 linked=1"
    ∷ codes "3 send absent=0 norights=0 origin=0 lost=0 extended=0 linked=1"
    ∷ codes "4 access ok"
    ∷ codes "5 send absent=0 norights=0 origin=0 lost=0 extended=1 linked=0"
    ∷ codes "6 send absent=0 norights=0 origin=0 lost=0 extended=1 linked=0" ∷ [])
    (codes "0,5,5,rwx,RW-,-"
    ∷ codes "1,0,5,rwx,R--,0:5"
    ∷ codes "2,0,5,rw-,---,1:0" ∷ [])
    []

-- the status of a replaced target goes to its origin
abbrev pub FlushPassesStatusOn : Type 0
FlushPassesStatusOn =
    row
    (codes "send,0,1,c0,8,50c7"
    ∷ codes "access,1,0,x"
    ∷ codes "send,0,1,10,8,70c7" ∷ [])
    ≡ shows
    (codes "1 send absent=0 norights=0 origin=0 lost=0 extended=0 linked=1"
    ∷ codes "2 access ok"
    ∷ codes "3 send absent=0 norights=0 origin=0 lost=0 extended=0 linked=1" ∷ [])
    (codes "0,5,5,rwx,R-X,-"
    ∷ codes "1,0,7,rwx,---,0:7" ∷ [])
    []

-- an extended page keeps the status that the flush of the same item passed to it
abbrev pub ExtensionBesideFlush : Type 0
ExtensionBesideFlush =
    row
    (codes "send,0,1,40c0,8,40c7"
    ∷ codes "send,1,2,50c0,8,40c7"
    ∷ codes "send,2,1,50c0,a,50c7"
    ∷ codes "access,1,5000,w"
    ∷ codes "access,1,4000,x"
    ∷ codes "send,0,1,40d0,8,40d7" ∷ [])
    ≡ shows
    (codes "1 send absent=0 norights=0 origin=0 lost=0 extended=0 linked=1"
    ∷ codes "2 send absent=0 norights=0 origin=0 lost=0 extended=0 linked=1"
    ∷ codes "3 send absent=0 norights=0 origin=0 lost=0 extended=0 linked=1"
    ∷ codes "4 access ok"
    ∷ codes "5 access ok"
    ∷ codes "6 send absent=0 norights=0 origin=0 lost=0 extended=1 linked=1" ∷ [])
    (codes "1,4,4,rwx,RWX,0:4"
    ∷ codes "1,5,5,rwx,---,0:5" ∷ [])
    []

-- the status of what derives from a replaced target goes to the target's origin
abbrev pub ReplacedTargetPassesAllStatus : Type 0
ReplacedTargetPassesAllStatus =
    row
    (codes "send,0,1,c0,8,50c7"
    ∷ codes "send,1,2,c0,8,c7"
    ∷ codes "access,2,0,w"
    ∷ codes "send,0,1,10,8,70c7" ∷ [])
    ≡ shows
    (codes "1 send absent=0 norights=0 origin=0 lost=0 extended=0 linked=1"
    ∷ codes "2 send absent=0 norights=0 origin=0 lost=0 extended=0 linked=1"
    ∷ codes "3 access ok"
    ∷ codes "4 send absent=0 norights=0 origin=0 lost=0 extended=0 linked=1" ∷ [])
    (codes "0,5,5,rwx,RW-,-"
    ∷ codes "1,0,7,rwx,---,0:7" ∷ [])
    []

-- a source that is the origin of a replaced target keeps what it gained
abbrev pub SourceGainsByFlush : Type 0
SourceGainsByFlush =
    row
    (codes "send,0,1,10c0,8,c7"
    ∷ codes "access,1,1000,w"
    ∷ codes "send,0,1,d0,8,d7" ∷ [])
    ≡ shows
    (codes "1 send absent=0 norights=0 origin=0 lost=0 extended=0 linked=1"
    ∷ codes "2 access ok"
    ∷ codes "3 send absent=0 norights=0 origin=0 lost=0 extended=0 linked=2" ∷ [])
    (codes "0,0,0,rwx,RW-,-"
    ∷ codes "1,0,0,rwx,---,0:0"
    ∷ codes "1,1,1,rwx,---,0:1" ∷ [])
    []

-- an extension gains no right that the source has not
abbrev pub ExtensionGainsWhatSourceHas : Type 0
ExtensionGainsWhatSourceHas =
    row
    (codes "send,0,1,c0,8,50c5"
    ∷ codes "send,1,2,c0,8,c4"
    ∷ codes "send,1,2,c0,8,c7" ∷ [])
    ≡ shows
    (codes "1 send absent=0 norights=0 origin=0 lost=0 extended=0 linked=1"
    ∷ codes "2 send absent=0 norights=0 origin=0 lost=0 extended=0 linked=1"
    ∷ codes "3 send absent=0 norights=0 origin=0 lost=0 extended=1 linked=0" ∷ [])
    (codes "1,0,5,r-x,---,0:5"
    ∷ codes "2,0,5,r-x,---,1:0" ∷ [])
    []

-- an extension gains no right that the fpage does not name
abbrev pub ExtensionGainsWhatFpageNames : Type 0
ExtensionGainsWhatFpageNames =
    row
    (codes "send,0,1,c0,8,50c4"
    ∷ codes "send,0,1,c0,8,50c2" ∷ [])
    ≡ shows
    (codes "1 send absent=0 norights=0 origin=0 lost=0 extended=0 linked=1"
    ∷ codes "2 send absent=0 norights=0 origin=0 lost=0 extended=1 linked=0" ∷ [])
    (codes "1,0,5,rw-,---,0:5" ∷ [])
    []

-- a new mapping has no right of the one that it replaced, nor its status
abbrev pub ReplacedTargetLeavesNoRight : Type 0
ReplacedTargetLeavesNoRight =
    row
    (codes "send,0,1,c0,8,50c7"
    ∷ codes "access,1,0,x"
    ∷ codes "send,0,1,c0,8,70c4" ∷ [])
    ≡ shows
    (codes "1 send absent=0 norights=0 origin=0 lost=0 extended=0 linked=1"
    ∷ codes "2 access ok"
    ∷ codes "3 send absent=0 norights=0 origin=0 lost=0 extended=0 linked=1" ∷ [])
    (codes "0,5,5,rwx,R-X,-"
    ∷ codes "1,0,7,r--,---,0:7" ∷ [])
    []

-- a source keeps its rights and its status
abbrev pub SourceKeepsStatus : Type 0
SourceKeepsStatus =
    row
    (codes "access,0,5000,w"
    ∷ codes "send,0,1,c0,8,50c4"
    ∷ codes "access,1,0,r"
    ∷ codes "send,1,2,c0,8,c7" ∷ [])
    ≡ shows
    (codes "1 access ok"
    ∷ codes "2 send absent=0 norights=0 origin=0 lost=0 extended=0 linked=1"
    ∷ codes "3 access ok"
    ∷ codes "4 send absent=0 norights=0 origin=0 lost=0 extended=0 linked=1" ∷ [])
    (codes "0,5,5,rwx,RW-,-"
    ∷ codes "1,0,5,r--,R--,0:5"
    ∷ codes "2,0,5,r--,---,1:0" ∷ [])
    []

-- a root is replaced as any other mapping: its status goes to nobody, and its frame is held by nobody
abbrev pub RootIsReplaced : Type 0
RootIsReplaced =
    row
    (codes "send,0,1,c0,8,50c7"
    ∷ codes "access,0,6000,w"
    ∷ codes "send,1,0,60c0,8,c7"
    ∷ codes "send,1,0,70c0,a,c7" ∷ [])
    ≡ shows
    (codes "1 send absent=0 norights=0 origin=0 lost=0 extended=0 linked=1"
    ∷ codes "2 access ok"
    ∷ codes "3 send absent=0 norights=0 origin=0 lost=0 extended=0 linked=1"
    ∷ codes "4 send absent=0 norights=0 origin=0 lost=0 extended=0 linked=1" ∷ [])
    (codes "0,6,5,rwx,---,0:7"
    ∷ codes "0,7,5,rwx,---,0:5" ∷ [])
    []
