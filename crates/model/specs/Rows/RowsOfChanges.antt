-- Worked rows of changes: for each record of a trace, or for holdings, all pages whose table entry changes, with it.
use Rattle.std.specs.Prelude.{◌≡◌, [], ◌∷◌, map, codes, None, Ok}
use Rattle.model.specs.Definitions.Holdings.{Holdings}
use Rattle.model.specs.Definitions.Changes.{tables_of, changes, apply}
use Rattle.model.specs.Rows.Rows.{place, mapping, at_page, table_entry, sets, removes, changes_by, tables_after}

-- a page is mapped where none was, and on with fewer rights; two pages by one item
abbrev pub MapSetsTarget : Type 0
MapSetsTarget =
    changes_by
    (codes "send,0,1,c0,8,50c7"
    ∷ codes "send,1,2,c0,8,c5"
    ∷ codes "send,0,3,10,8,d6" ∷ [])
    ≡ Ok ((sets 1 0 5 7 ∷ []) ∷ (sets 2 0 5 5 ∷ []) ∷ (sets 3 0 0 6 ∷ sets 3 1 1 6 ∷ []) ∷ [])

-- a grant takes the source away and sets the target; what derives from the source loses what the grant withholds
abbrev pub GrantRemovesSource : Type 0
GrantRemovesSource =
    changes_by
    (codes "send,0,1,c0,a,50c7"
    ∷ codes "send,1,2,c0,8,c7"
    ∷ codes "send,1,3,40c0,a,c4" ∷ [])
    ≡ Ok
    ((removes 0 5 ∷ sets 1 0 5 7 ∷ [])
    ∷ (sets 2 0 5 7 ∷ [])
    ∷ (removes 1 0 ∷ sets 2 0 5 4 ∷ sets 3 4 5 4 ∷ []) ∷ [])

-- what derives loses w and keeps r and x; the page named keeps all, and so does a mapping of another page; a second
-- time there is nothing to take
abbrev pub UnmapChangesWhatDerives : Type 0
UnmapChangesWhatDerives =
    changes_by
    (codes "send,0,1,c0,8,50c7"
    ∷ codes "send,1,2,c0,8,c7"
    ∷ codes "send,0,3,c0,8,60c7"
    ∷ codes "unmap,0,0,50c2"
    ∷ codes "unmap,0,0,50c2" ∷ [])
    ≡ Ok
    ((sets 1 0 5 7 ∷ []) ∷ (sets 2 0 5 7 ∷ []) ∷ (sets 3 0 6 7 ∷ [])
    ∷ (sets 1 0 5 5 ∷ sets 2 0 5 5 ∷ [])
    ∷ [] ∷ [])

-- a flush of all rights in the middle of a chain: the page and all that derives from it are gone, in three spaces
abbrev pub FlushRemovesChain : Type 0
FlushRemovesChain =
    changes_by
    (codes "send,0,1,c0,8,50c7"
    ∷ codes "send,1,2,c0,8,c7"
    ∷ codes "send,2,3,70c0,8,c7"
    ∷ codes "unmap,1,40,c7" ∷ [])
    ≡ Ok
    ((sets 1 0 5 7 ∷ []) ∷ (sets 2 0 5 7 ∷ []) ∷ (sets 3 7 5 7 ∷ [])
    ∷ (removes 1 0 ∷ removes 2 0 ∷ removes 3 7 ∷ []) ∷ [])

-- a target gains rights and keeps its frame; a map of rights that it has changes nothing
abbrev pub ExtensionSetsTarget : Type 0
ExtensionSetsTarget =
    changes_by
    (codes "send,0,1,c0,8,50c4"
    ∷ codes "send,0,1,c0,8,50c2"
    ∷ codes "send,0,1,c0,8,50c6" ∷ [])
    ≡ Ok ((sets 1 0 5 4 ∷ []) ∷ (sets 1 0 5 6 ∷ []) ∷ [] ∷ [])

-- accesses and faults change no table, nor does status that an unmap takes or passes on, nor a refusal
abbrev pub StatusChangesNothing : Type 0
StatusChangesNothing =
    changes_by
    (codes "send,0,1,c0,8,50c5"
    ∷ codes "access,1,0,x"
    ∷ codes "access,1,0,w"
    ∷ codes "access,0,5000,w"
    ∷ codes "unmap,1,0,c0"
    ∷ codes "unmap,4,0,c0" ∷ [])
    ≡ Ok ((sets 1 0 5 5 ∷ []) ∷ [] ∷ [] ∷ [] ∷ [] ∷ [] ∷ [])

-- a target is replaced by another frame with the rights that it had, and what derived from it is gone
abbrev pub ReplacedTargetRemovesItsDerived : Type 0
ReplacedTargetRemovesItsDerived =
    changes_by
    (codes "send,0,1,c0,8,50c7"
    ∷ codes "send,1,2,c0,8,c7"
    ∷ codes "send,0,1,c0,8,60c7" ∷ [])
    ≡ Ok ((sets 1 0 5 7 ∷ []) ∷ (sets 2 0 5 7 ∷ []) ∷ (sets 1 0 6 7 ∷ removes 2 0 ∷ []) ∷ [])

-- another origin of a page that keeps frame and rights is no change: 0:5 goes to 3:0, and 1:0 then comes from there
abbrev pub OriginChangesNothing : Type 0
OriginChangesNothing =
    changes_by
    (codes "send,0,1,c0,8,50c7"
    ∷ codes "send,0,3,c0,a,50c7"
    ∷ codes "clear,3" ∷ [])
    ≡ Ok ((sets 1 0 5 7 ∷ []) ∷ (removes 0 5 ∷ sets 3 0 5 7 ∷ []) ∷ (removes 1 0 ∷ removes 3 0 ∷ []) ∷ [])

-- between any two holdings: those held before come first, then the new ones; what has one entry is left out
abbrev pub ChangesOfHoldings : Type 0
ChangesOfHoldings =
    let old : Holdings = mapping 0 5 5 7 None ∷ mapping 1 0 5 7 (place 0 5) ∷ mapping 1 2 5 5 (place 1 0) ∷ mapping 2 0 6 6 None ∷ [] in
    let new : Holdings = mapping 0 4 4 7 None ∷ mapping 0 5 5 7 None ∷ mapping 1 2 5 5 (place 0 5) ∷ mapping 2 0 6 4 None ∷ mapping 3 0 5 1 (place 0 5) ∷ [] in
    (changes old new ∷ changes new old ∷ changes old old ∷ changes [] (mapping 1 0 3 2 None ∷ []) ∷ [])
    ≡ (removes 1 0 ∷ sets 2 0 6 4 ∷ sets 0 4 4 7 ∷ sets 3 0 5 1 ∷ [])
    ∷ (removes 0 4 ∷ sets 2 0 6 6 ∷ removes 3 0 ∷ sets 1 0 5 7 ∷ [])
    ∷ []
    ∷ (sets 1 0 3 2 ∷ []) ∷ []

-- changes are made in their order, each at its page alone: the last one of a page stays
abbrev pub ChangesInOrder : Type 0
ChangesInOrder =
    let held : Holdings = mapping 0 5 5 7 None ∷ mapping 0 6 6 7 None ∷ [] in
    map
    (apply (sets 1 0 5 4 ∷ removes 0 5 ∷ sets 1 0 5 6 ∷ sets 1 6 5 7 ∷ removes 1 6 ∷ removes 2 6 ∷ []) (tables_of held))
    (at_page 0 5 ∷ at_page 0 6 ∷ at_page 1 0 ∷ at_page 1 6 ∷ at_page 2 6 ∷ at_page 0 0 ∷ [])
    ≡ None ∷ table_entry 6 7 ∷ table_entry 5 6 ∷ None ∷ None ∷ None ∷ []

-- tables that followed a map, a second one of it, an unmap of w, a grant and a clear
abbrev pub TablesAfterCalls : Type 0
TablesAfterCalls =
    tables_after
    (codes "send,0,1,c0,8,50c7"
    ∷ codes "send,1,2,c0,8,c6"
    ∷ codes "unmap,0,0,50c2"
    ∷ codes "send,0,3,c0,a,40c7"
    ∷ codes "send,0,1,30c0,8,30c7"
    ∷ codes "clear,2" ∷ [])
    (at_page 0 5 ∷ at_page 1 0 ∷ at_page 2 0 ∷ at_page 0 4 ∷ at_page 3 0 ∷ at_page 1 3 ∷ at_page 0 9 ∷ [])
    ≡ Ok (table_entry 5 7 ∷ table_entry 5 5 ∷ None ∷ None ∷ table_entry 4 7 ∷ table_entry 3 7 ∷ None ∷ [])
