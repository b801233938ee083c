-- No place comes twice, and each origin stands there.
use Rattle.std.proofs.Common.{◌≡◌, true, subst, rules}
use Rattle.maptree.specs.Origins.{Shape, OriginsStand, are_once}
use Rattle.maptree.proofs.Linking.{forest_once, origins_stand}
use Rattle.maptree.proofs.tree.Tree.links.Goals as goal

pub returns-clause-once : goal.returns-clause-once
returns-clause-once c =
    let once = subst (λ (s : Shape). are_once s.links ≡ true) c.self.view_is (forest_once c.self.inside.nodes.nodes c.self.invariant) in
    search (rules, once)

pub returns-clause-origins : goal.returns-clause-origins
returns-clause-origins c =
    let stand = subst (λ (s : Shape). OriginsStand s.links) c.self.view_is (origins_stand c.self.inside.nodes.nodes) in
    search (rules, stand)
