-- The places for the first so many pages have none themselves.
use Rattle.std.proofs.Common.{◌≡◌, Some, None}
use Rattle.space.specs.declared.place.Place.{Place}
use Rattle.maptree.specs.PlaceMaps.{place_for}
use Rattle.maptree.proofs.EachReplaced.{for_first}
use Rattle.maptree.proofs.place_map.PlaceMap.is_apart.Given as goal

abbrev pub invariant-loop-k : goal.invariant-loop-k
invariant-loop-k l = (p q : Place) → for_first l.self l.k p ≡ Some q → place_for l.self q ≡ None
