-- Worked rows of accesses: which right each needs, and which status it leaves.
use Rattle.std.specs.Prelude.{◌≡◌, [], ◌∷◌, codes}
use Rattle.model.specs.Rows.Rows.{shows, row}

-- accesses within and beyond rights and space
abbrev pub AccessAnswers : Type 0
AccessAnswers =
    row
    (codes "send,0,1,10,8,50c6"
    ∷ codes "access,1,fff,w"
    ∷ codes "access,1,ffc,x"
    ∷ codes "access,1,1000,r"
    ∷ codes "access,1,40000,r"
    ∷ codes "access,3,0,r" ∷ [])
    ≡ shows
    (codes "1 send absent=0 norights=0 origin=0 lost=0 extended=0 linked=1"
    ∷ codes "2 access ok"
    ∷ codes "3 access fault"
    ∷ codes "4 access fault"
    ∷ codes "5 refused OutOfSpace"
    ∷ codes "6 refused NoSuchSpace" ∷ [])
    (codes "1,0,5,rw-,RW-,0:5" ∷ [])
    []

-- the status of a page is the union of what its accesses leave; a fault leaves nothing
abbrev pub AccessesAddUp : Type 0
AccessesAddUp =
    row
    (codes "send,0,1,c0,8,50c6"
    ∷ codes "access,1,0,r"
    ∷ codes "access,1,fff,w"
    ∷ codes "access,1,800,x"
    ∷ codes "access,0,5000,x"
    ∷ codes "access,0,5000,w" ∷ [])
    ≡ shows
    (codes "1 send absent=0 norights=0 origin=0 lost=0 extended=0 linked=1"
    ∷ codes "2 access ok"
    ∷ codes "3 access ok"
    ∷ codes "4 access fault"
    ∷ codes "5 access ok"
    ∷ codes "6 access ok" ∷ [])
    (codes "0,5,5,rwx,RWX,-"
    ∷ codes "1,0,5,rw-,RW-,0:5" ∷ [])
    []

-- one page with x alone, one with w alone, one with r alone, and each kind of access to each
abbrev pub EachRightAlone : Type 0
EachRightAlone =
    row
    (codes "send,0,1,c0,8,50c1"
    ∷ codes "send,0,1,10c0,8,60c2"
    ∷ codes "send,0,1,20c0,8,70c4"
    ∷ codes "access,1,0,r"
    ∷ codes "access,1,0,w"
    ∷ codes "access,1,0,x"
    ∷ codes "access,1,1000,r"
    ∷ codes "access,1,1000,w"
    ∷ codes "access,1,1000,x"
    ∷ codes "access,1,2000,r"
    ∷ codes "access,1,2000,w"
    ∷ codes "access,1,2000,x" ∷ [])
    ≡ shows
    (codes "1 send absent=0 norights=0 origin=0 lost=0 extended=0 linked=1"
    ∷ codes "2 send absent=0 norights=0 origin=0 lost=0 extended=0 linked=1"
    ∷ codes "3 send absent=0 norights=0 origin=0 lost=0 extended=0 linked=1"
    ∷ codes "4 access fault"
    ∷ codes "5 access fault"
    ∷ codes "6 access ok"
    ∷ codes "7 access fault"
    ∷ codes "8 access ok"
    ∷ codes "9 access fault"
    ∷ codes "10 access ok"
    ∷ codes "11 access fault"
    ∷ codes "12 access fault" ∷ [])
    (codes "1,0,5,--x,R-X,0:5"
    ∷ codes "1,1,6,-w-,RW-,0:6"
    ∷ codes "1,2,7,r--,R--,0:7" ∷ [])
    []

-- two kinds of access to one page, in each order
abbrev pub EachTwoKinds : Type 0
EachTwoKinds =
    row
    (codes "access,0,0,w"
    ∷ codes "access,0,0,x"
    ∷ codes "access,0,1000,w"
    ∷ codes "access,0,1000,r"
    ∷ codes "access,0,2000,x"
    ∷ codes "access,0,2000,r"
    ∷ codes "access,0,3000,r"
    ∷ codes "access,0,3000,x"
    ∷ codes "access,0,4000,r"
    ∷ codes "access,0,4000,w"
    ∷ codes "access,0,5000,x"
    ∷ codes "access,0,5000,w" ∷ [])
    ≡ shows
    (codes "1 access ok"
    ∷ codes "2 access ok"
    ∷ codes "3 access ok"
    ∷ codes "4 access ok"
    ∷ codes "5 access ok"
    ∷ codes "6 access ok"
    ∷ codes "7 access ok"
    ∷ codes "8 access ok"
    ∷ codes "9 access ok"
    ∷ codes "10 access ok"
    ∷ codes "11 access ok"
    ∷ codes "12 access ok" ∷ [])
    (codes "0,0,0,rwx,RWX,-"
    ∷ codes "0,1,1,rwx,RW-,-"
    ∷ codes "0,2,2,rwx,R-X,-"
    ∷ codes "0,3,3,rwx,R-X,-"
    ∷ codes "0,4,4,rwx,RW-,-"
    ∷ codes "0,5,5,rwx,RWX,-" ∷ [])
    []

-- the last byte of a page and the first of the next; an origin and a mapping of the same page of another space stay
abbrev pub OnePageAlone : Type 0
OnePageAlone =
    row
    (codes "send,0,1,10,8,d7"
    ∷ codes "send,0,2,10,8,d7"
    ∷ codes "access,1,fff,r"
    ∷ codes "access,1,1000,x" ∷ [])
    ≡ shows
    (codes "1 send absent=0 norights=0 origin=0 lost=0 extended=0 linked=2"
    ∷ codes "2 send absent=0 norights=0 origin=0 lost=0 extended=0 linked=2"
    ∷ codes "3 access ok"
    ∷ codes "4 access ok" ∷ [])
    (codes "1,0,0,rwx,R--,0:0"
    ∷ codes "1,1,1,rwx,R-X,0:1"
    ∷ codes "2,0,0,rwx,---,0:0"
    ∷ codes "2,1,1,rwx,---,0:1" ∷ [])
    []
