-- No place stands twice in a forest.
use Rattle.std.proofs.Common.{◌≡◌, true, subst}
use Rattle.maptree.specs.Origins.{Shape, are_once}
use Rattle.maptree.proofs.Linking.{forest_once}
use Rattle.maptree.proofs.tree.Tree.learn_places_are_distinct.Goals as goal

pub returns : goal.returns
returns c = subst (λ (s : Shape). are_once s.links ≡ true) c.self.view_is (forest_once c.self.inside.nodes.nodes c.self.invariant)
