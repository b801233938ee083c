-- No place comes twice, and each origin stands there.
use Rattle.std.proofs.Common.{◌≡◌, true, subst}
use Rattle.maptree.specs.Origins.{Shape, OriginsStand, are_once}
use Rattle.maptree.proofs.Linking.{forest_once, origins_stand}
use Rattle.maptree.proofs.tree.Tree.each_link.Goals as goal

pub returns-clause-once : goal.returns-clause-once
returns-clause-once c = subst (λ (s : Shape). are_once s.links ≡ true) c.self.view_is (forest_once c.self.inside.nodes.nodes c.self.invariant)

pub returns-clause-origins : goal.returns-clause-origins
returns-clause-origins c = subst (λ (s : Shape). OriginsStand s.links) c.self.view_is (origins_stand c.self.inside.nodes.nodes)
