-- Derived mappings: those from which a chain of origins leads to a place (L4 X.2, MapItem, Unmap).
-- Both tests are asked of held places. A chain that does not come back to itself has at most as many places as are held.
use Rattle.std.specs.Prelude.{ℕ, zero, suc, Bool, false, ◌||◌, length, Option, Some, None}
use Rattle.space.specs.declared.place.Place.{Place}
use Rattle.model.specs.Definitions.Holdings.{Holdings, PlaceSet, origin_at}

-- whether one of the first n places of a chain of origins is in the set
abbrev pub meets : ℕ → Holdings → PlaceSet → Option Place → Bool
meets zero h set o = false
meets (suc n) h set None = false
meets (suc n) h set (Some o) = set o || meets n h set (origin_at h o)

-- a chain of one or more origins leads from the place into the set
abbrev pub is_under : Holdings → PlaceSet → PlaceSet
is_under h set p = meets (length h) h set (origin_at h p)

-- a chain of zero or more origins leads from the place into the set
abbrev pub is_below : Holdings → PlaceSet → PlaceSet
is_below h set p = set p || is_under h set p
