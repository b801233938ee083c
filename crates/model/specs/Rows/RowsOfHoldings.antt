-- Worked rows of holdings: which are lawful, and what derives from what.
use Rattle.std.specs.Prelude.{◌≡◌, true, false, [], ◌∷◌, ◌++◌, map, replicate, None}
use Rattle.std.specs.declared.cmp.Ordering.TheVariants.{Less, Greater, Equal}
use Rattle.space.specs.Place.{same_place, place_cmp}
use Rattle.model.specs.Definitions.Holdings.{Holdings, places}
use Rattle.model.specs.Definitions.Derived.{is_under, is_below}
use Rattle.model.specs.Definitions.Lawful.{is_lawful}
use Rattle.model.specs.Rows.Rows.{place, mapping, all_pages, at_page}

-- no mapping at all; two roots of two frames; a chain with fewer rights at each step
abbrev pub LawfulHoldings : Type 0
LawfulHoldings =
    map is_lawful
    ([]
    ∷ (mapping 0 0 0 7 None ∷ mapping 0 1 1 7 None ∷ [])
    ∷ (mapping 0 0 0 1 (place 1 0) ∷ mapping 1 0 0 3 (place 2 0) ∷ mapping 2 0 0 7 None ∷ []) ∷ [])
    ≡ replicate 3 true

-- an origin that is not held; chains without end; two roots of one frame; another frame than the origin; more rights
-- than the origin; no rights; places out of order; a place twice
abbrev pub UnlawfulHoldings : Type 0
UnlawfulHoldings =
    map is_lawful
    ((mapping 1 0 5 6 (place 0 5) ∷ [])
    ∷ (mapping 0 0 0 7 (place 0 0) ∷ [])
    ∷ (mapping 0 0 0 7 (place 1 0) ∷ mapping 1 0 0 7 (place 0 0) ∷ [])
    ∷ (mapping 0 0 0 7 None ∷ mapping 0 1 0 7 None ∷ [])
    ∷ (mapping 0 0 0 7 None ∷ mapping 1 0 1 7 (place 0 0) ∷ [])
    ∷ (mapping 0 0 0 5 None ∷ mapping 1 0 0 6 (place 0 0) ∷ [])
    ∷ (mapping 0 0 0 0 None ∷ [])
    ∷ (mapping 0 1 1 7 None ∷ mapping 0 0 0 7 None ∷ [])
    ∷ (mapping 0 1 1 7 None ∷ mapping 0 1 1 7 (place 0 1) ∷ []) ∷ [])
    ≡ replicate 9 false

-- which places of a chain of three, and of a root beside it, are under a set and which are below it
abbrev pub PlacesUnderSets : Type 0
PlacesUnderSets =
    let h : Holdings = mapping 0 5 5 7 None ∷ mapping 0 6 6 7 None ∷ mapping 1 0 5 7 (place 0 5) ∷ mapping 2 0 5 7 (place 1 0) ∷ [] in
    map (λ p. is_under h (all_pages 0) p) (places h)
    ++ map (λ p. is_below h (all_pages 0) p) (places h)
    ++ map (λ p. is_under h (all_pages 1) p) (places h)
    ++ map (λ p. is_below h (all_pages 1) p) (places h)
    ++ map (λ p. is_under h (all_pages 2) p) (places h)
    ++ map (λ p. is_below h (all_pages 2) p) (places h)
    ≡ false ∷ false ∷ true ∷ true
    ∷ true ∷ true ∷ true ∷ true
    ∷ false ∷ false ∷ false ∷ true
    ∷ false ∷ false ∷ true ∷ true
    ∷ false ∷ false ∷ false ∷ false
    ∷ false ∷ false ∷ false ∷ true ∷ []

-- as many places as are held, in one chain
abbrev pub LongestLawfulChain : Type 0
LongestLawfulChain =
    is_lawful
    (mapping 0 0 9 7 (place 0 1) ∷ mapping 0 1 9 7 (place 0 2) ∷ mapping 0 2 9 7 (place 0 3) ∷ mapping 0 3 9 7 (place 0 4)
    ∷ mapping 0 4 9 7 None ∷ [])
    ≡ true

-- one mapping that is not lawful, behind or before others that are; a space before a lower one
abbrev pub UnlawfulAmongOthers : Type 0
UnlawfulAmongOthers =
    map is_lawful
    ((mapping 0 0 0 7 None ∷ mapping 0 1 1 0 None ∷ [])
    ∷ (mapping 0 0 0 0 None ∷ mapping 0 1 1 7 None ∷ [])
    ∷ (mapping 0 0 0 7 None ∷ mapping 1 0 0 7 (place 0 1) ∷ [])
    ∷ (mapping 0 0 0 7 None ∷ mapping 0 1 1 7 None ∷ mapping 1 0 1 7 (place 0 0) ∷ [])
    ∷ (mapping 0 0 0 6 None ∷ mapping 1 0 0 7 (place 0 0) ∷ [])
    ∷ (mapping 0 0 0 7 None ∷ mapping 0 1 1 7 None ∷ mapping 1 0 0 7 None ∷ [])
    ∷ (mapping 0 0 0 7 None ∷ mapping 1 0 1 7 (place 1 1) ∷ mapping 1 1 1 7 (place 1 0) ∷ [])
    ∷ (mapping 1 0 0 7 None ∷ mapping 0 1 1 7 None ∷ []) ∷ [])
    ≡ replicate 8 false

-- by space, then by page; and a place is one with itself alone
abbrev pub OrderOfPlaces : Type 0
OrderOfPlaces =
    (place_cmp (at_page 0 9) (at_page 1 0) ∷ place_cmp (at_page 1 0) (at_page 0 9) ∷ place_cmp (at_page 1 3) (at_page 1 4)
    ∷ place_cmp (at_page 1 4) (at_page 1 3) ∷ place_cmp (at_page 2 4) (at_page 2 4) ∷ [])
    ≡ Less ∷ Greater ∷ Less ∷ Greater ∷ Equal ∷ []

-- a place is one with itself alone
abbrev pub SamePlaces : Type 0
SamePlaces =
    (same_place (at_page 2 4) (at_page 2 4) ∷ same_place (at_page 2 4) (at_page 2 5) ∷ same_place (at_page 2 4) (at_page 1 4)
    ∷ same_place (at_page 2 4) (at_page 4 2) ∷ [])
    ≡ true ∷ false ∷ false ∷ false ∷ []
