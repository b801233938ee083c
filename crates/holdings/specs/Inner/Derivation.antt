-- The tree of a frame, and the places that stand in it.
use Rattle.std.specs.List.{list_any}
use Rattle.std.specs.Prelude.{◌≡◌, Some, Bool, false, ◌||◌}
use Rattle.space.specs.Place.{same_place}
use Rattle.space.specs.declared.place.Place.{Place}
use Rattle.maptree.specs.Origins.{Origins, origin_in}

-- whether a place stands in a tree
abbrev pub stands_in : Origins → Place → Bool
stands_in os p = list_any (λ o. same_place p o.0) os

-- the place stands in the tree now, with that origin, and nothing else changed
pub record IsDerived (old new : Origins) (origin place : Place) : Type 0 where
  pub there : origin_in new place ≡ Some origin
  pub elsewhere : (q : Place) → same_place q place ≡ false → origin_in new q ≡ origin_in old q
  pub stands : (q : Place) → stands_in new q ≡ (same_place q place || stands_in old q)
