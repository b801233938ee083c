-- Those so far are told.
use Rattle.std.proofs.Common.{◌≡◌, ◌≤◌, None, take}
use Rattle.std.specs.List.{All}
use Rattle.space.specs.declared.place.Place.{Place}
use Rattle.maptree.specs.PlaceMaps.{place_for}
use Rattle.holdings.specs.Inner.Links.{last_target}
use Rattle.holdings.proofs.renaming.targets_of.Given as goal

abbrev pub invariant-loop-link : goal.invariant-loop-link
invariant-loop-link l = record {
  space : l.targets.space ≡ l.space;
  first : All (λ m. l.targets.first ≤ m.source.page) l.links;
  are : (p : Place) → place_for l.targets p ≡ last_target (take l.link-index l.links) p None;
}
