-- Worked rows of the recursion, each by strip as well.
use Rattle.std.specs.Prelude.{◌≡◌, true, false, [], ◌∷◌, codes}
use Rattle.model.specs.Rows.Rows.{revocation, takes}

-- a nested mapping in the space that revokes, whose origin has the lower page
abbrev pub NestedMappingByRecursion : Type 0
NestedMappingByRecursion =
    revocation
    (codes "send,0,1,c0,8,50c7"
    ∷ codes "send,1,2,c0,8,c7"
    ∷ codes "send,2,1,30c0,8,c7" ∷ [])
    1 2 false
    ≡ takes 0
    (codes "1,0,5,rwx,---,0:5"
    ∷ codes "1,3,5,r-x,---,2:0"
    ∷ codes "2,0,5,r-x,---,1:0" ∷ [])
    []

-- a nested mapping in the space that revokes, whose origin has the higher page
abbrev pub NestedMappingOfHigherPage : Type 0
NestedMappingOfHigherPage =
    revocation
    (codes "send,0,1,30c0,8,50c7"
    ∷ codes "send,1,2,c0,8,30c7"
    ∷ codes "send,2,1,c0,8,c7" ∷ [])
    1 2 false
    ≡ takes 0
    (codes "1,0,5,r-x,---,2:0"
    ∷ codes "1,3,5,rwx,---,0:5"
    ∷ codes "2,0,5,r-x,---,1:3" ∷ [])
    []

-- the status below a page
abbrev pub StatusByRecursion : Type 0
StatusByRecursion =
    revocation
    (codes "send,0,1,c0,8,50c7"
    ∷ codes "send,1,2,c0,8,c7"
    ∷ codes "access,2,0,w" ∷ [])
    1 0 false
    ≡ takes 6
    (codes "0,5,5,rwx,RW-,-"
    ∷ codes "1,0,5,rwx,---,0:5"
    ∷ codes "2,0,5,rwx,---,1:0" ∷ [])
    []

-- status on each mapping of a nested chain, whose outer page is the lower one
abbrev pub NestedStatusOfLowerPage : Type 0
NestedStatusOfLowerPage =
    revocation
    (codes "send,0,1,c0,8,50c7"
    ∷ codes "send,1,2,c0,8,c7"
    ∷ codes "send,2,1,30c0,8,c7"
    ∷ codes "access,1,3000,x"
    ∷ codes "access,2,0,w" ∷ [])
    1 4 false
    ≡ takes 7
    (codes "0,5,5,rwx,RWX,-"
    ∷ codes "1,0,5,rwx,---,0:5"
    ∷ codes "1,3,5,-wx,---,2:0"
    ∷ codes "2,0,5,-wx,---,1:0" ∷ [])
    []

-- status on each mapping of a nested chain, whose outer page is the higher one
abbrev pub NestedStatusOfHigherPage : Type 0
NestedStatusOfHigherPage =
    revocation
    (codes "send,0,1,30c0,8,50c7"
    ∷ codes "send,1,2,c0,8,30c7"
    ∷ codes "send,2,1,c0,8,c7"
    ∷ codes "access,1,0,x"
    ∷ codes "access,2,0,w" ∷ [])
    1 4 false
    ≡ takes 7
    (codes "0,5,5,rwx,RWX,-"
    ∷ codes "1,0,5,-wx,---,2:0"
    ∷ codes "1,3,5,rwx,---,0:5"
    ∷ codes "2,0,5,-wx,---,1:3" ∷ [])
    []

-- a flush of the roots
abbrev pub FlushByRecursion : Type 0
FlushByRecursion =
    revocation
    (codes "send,0,1,c0,8,50c7"
    ∷ codes "send,1,2,c0,8,c7" ∷ [])
    0 7 true
    ≡ takes 0
    []
    (0 ∷ 1 ∷ 2 ∷ 3 ∷ 4 ∷ 5 ∷ 6 ∷ 7 ∷ 8 ∷ 9 ∷ 10 ∷ 11 ∷ 12 ∷ 13 ∷ 14 ∷ 15 ∷ [])

-- a flush of a space that holds a page and, at a higher page, what derives from it
abbrev pub FlushOfNestedByRecursion : Type 0
FlushOfNestedByRecursion =
    revocation
    (codes "send,0,1,c0,8,50c7"
    ∷ codes "send,1,2,c0,8,c7"
    ∷ codes "send,2,1,30c0,8,c7"
    ∷ codes "access,1,3000,x" ∷ [])
    1 4 true
    ≡ takes 5
    (codes "0,5,5,rwx,R-X,-"
    ∷ codes "1,0,5,-wx,---,0:5"
    ∷ codes "1,3,5,-wx,---,2:0"
    ∷ codes "2,0,5,-wx,---,1:0" ∷ [])
    []

-- a flush that removes a page and, at a lower page, what derives from it
abbrev pub FlushOfNestedHigherPage : Type 0
FlushOfNestedHigherPage =
    revocation
    (codes "send,0,1,30c0,8,50c7"
    ∷ codes "send,1,2,c0,8,30c7"
    ∷ codes "send,2,1,c0,8,c7"
    ∷ codes "access,1,0,x" ∷ [])
    1 7 true
    ≡ takes 5
    (codes "0,5,5,rwx,R-X,-" ∷ [])
    []

-- two branches, one with a branch of its own, each with a status
abbrev pub BranchesByRecursion : Type 0
BranchesByRecursion =
    revocation
    (codes "send,0,1,c0,8,50c7"
    ∷ codes "send,0,2,c0,8,50c7"
    ∷ codes "send,1,2,10c0,8,c7"
    ∷ codes "access,1,0,r"
    ∷ codes "access,2,0,x"
    ∷ codes "access,2,1000,w" ∷ [])
    0 2 false
    ≡ takes 7
    (codes "1,0,5,r-x,---,0:5"
    ∷ codes "2,0,5,r-x,---,0:5"
    ∷ codes "2,1,5,r-x,---,1:0" ∷ [])
    []

-- a chain of five through the space that revokes, with the status of its end
abbrev pub DeepChainByRecursion : Type 0
DeepChainByRecursion =
    revocation
    (codes "send,0,1,c0,8,50c7"
    ∷ codes "send,1,2,c0,8,c7"
    ∷ codes "send,2,1,10c0,8,c7"
    ∷ codes "send,1,2,10c0,8,10c7"
    ∷ codes "access,2,1000,x" ∷ [])
    2 4 false
    ≡ takes 5
    (codes "1,0,5,rwx,R-X,0:5"
    ∷ codes "1,1,5,-wx,---,2:0"
    ∷ codes "2,0,5,rwx,---,1:0"
    ∷ codes "2,1,5,-wx,---,1:1" ∷ [])
    []

-- an origin that has a status of its own
abbrev pub OriginGainsByRecursion : Type 0
OriginGainsByRecursion =
    revocation
    (codes "access,0,5000,w"
    ∷ codes "send,0,1,c0,8,50c7"
    ∷ codes "access,1,0,x" ∷ [])
    1 0 false
    ≡ takes 5
    (codes "0,5,5,rwx,RWX,-"
    ∷ codes "1,0,5,rwx,---,0:5" ∷ [])
    []
