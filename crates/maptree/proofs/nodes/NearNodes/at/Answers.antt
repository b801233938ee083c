-- The node stands in the list where it was asked for.
use Rattle.std.proofs.Common.{◌≡◌, ◌<◌, List, length, get_or, ap, subst, arith}
use Rattle.space.specs.declared.node.Node.{Node}
use Rattle.maptree.proofs.Near.{seen_is}
use Rattle.maptree.proofs.nodes.NearNodes.at.Goals as goal

-- it is among those that were near
pub returns-then-i-self-clause-node : goal.returns-then-i-self-clause-node
returns-then-i-self-clause-node c =
    let within : c.args.i < length c.self.inside.nodes.now.nodes = omega (arith, ap length c.self.view_is, c.requires) in
    subst (λ (ns : List Node). c.nth.result ≡ get_or ns c.args.i c.nth.result) c.self.view_is
    (seen_is c.self.inside.nodes.now.nodes c.self.inside.near.now c.self.inside.backward c.self.inside.first c.args.i c.nth.result c.self.invariant c.if-self-i.true c.if-i-self.true within c.nth.ensures)

-- it was not
pub returns-clause-node : goal.returns-clause-node
returns-clause-node c =
    let within : c.args.i < length c.self.inside.nodes.now.nodes = omega (arith, ap length c.self.view_is, c.requires) in
    subst (λ (ns : List Node). c.nth-2.result ≡ get_or ns c.args.i c.nth-2.result) c.self.view_is
    (seen_is c.self.inside.nodes.now.nodes c.in-Some.near.now c.in-Some.backward c.in-Some.first c.args.i c.nth-2.result c.in-Some.ensures.nodes c.in-Some.ensures.before
    (omega (arith, c.in-Some.ensures.before, c.in-Some.ensures.behind)) within c.nth-2.ensures)
