-- Where named places stand in a list of nodes.
use Rattle.std.specs.Prelude.{◌≡◌, ℕ, ◌<◌, true, List, length, get_or}
use Rattle.std.specs.List.{All, Contains, list_any}
use Rattle.space.specs.declared.place.Place.{Place}
use Rattle.space.specs.Place.{same_place}
use Rattle.space.specs.declared.node.Node.{Node}

-- the positions of all nodes whose places are named, and no others
pub record ArePositions (ns : List Node) (places : List Place) (at : List ℕ) : Type 0 where
  pub within : All (λ k. k < length ns) at
  pub named : All (λ k. (d : Node) → list_any (same_place (get_or ns k d).place) places ≡ true) at
  pub all : (k : ℕ) (d : Node) → k < length ns → list_any (same_place (get_or ns k d).place) places ≡ true → Contains at k
