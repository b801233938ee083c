-- The place and the depth of a node.
use Rattle.std.proofs.Common.{◌≡◌, ◌<◌, ℕ, length, [], subst, sym, ap, ◌∙◌, arith}
use Rattle.space.specs.declared.place.Place.{Place}
use Rattle.maptree.specs.Origins.{Shape, place_at, HasDepth}
use Rattle.maptree.proofs.Positions.{node_place, node_depth, node_only, length-links}
use Rattle.maptree.proofs.Insertion.{depth_fits}
use Rattle.maptree.proofs.tree.Tree.node.Goals as goal

pub returns-clause-place : goal.returns-clause-place
returns-clause-place c =
    let nodes = c.self.inside.nodes.nodes in
    let size : length c.args.self.now.links ≡ length nodes = ap (λ (s : Shape). length s.links) (sym c.self.view_is) ∙ length-links [] nodes in
    subst (λ (s : Shape). (d : Place) → c.get.result.place ≡ place_at s.links c.args.i d) c.self.view_is
    (node_place nodes c.args.i c.get.result (omega (arith, size, c.requires)) c.get.ensures.node)

pub returns-clause-depth : goal.returns-clause-depth
returns-clause-depth c =
    let nodes = c.self.inside.nodes.nodes in
    let size : length c.args.self.now.links ≡ length nodes = ap (λ (s : Shape). length s.links) (sym c.self.view_is) ∙ length-links [] nodes in
    subst (λ (s : Shape). HasDepth s.links c.get.result.place c.get.result.depth) c.self.view_is
    (node_depth nodes c.args.i c.get.result c.self.invariant (omega (arith, size, c.requires)) c.get.ensures.node)

pub returns-clause-only : goal.returns-clause-only
returns-clause-only c =
    let nodes = c.self.inside.nodes.nodes in
    let size : length c.args.self.now.links ≡ length nodes = ap (λ (s : Shape). length s.links) (sym c.self.view_is) ∙ length-links [] nodes in
    subst (λ (s : Shape). (j : ℕ) (d : Place) → j < length s.links → place_at s.links j d ≡ c.get.result.place → j ≡ c.args.i) c.self.view_is
    (node_only nodes c.args.i c.get.result c.self.invariant (omega (arith, size, c.requires)) c.get.ensures.node)

pub returns-clause-upto : goal.returns-clause-upto
returns-clause-upto c =
    let nodes = c.self.inside.nodes.nodes in
    let size : length c.args.self.now.links ≡ length nodes = ap (λ (s : Shape). length s.links) (sym c.self.view_is) ∙ length-links [] nodes in
    depth_fits nodes c.args.i c.get.result c.self.invariant (omega (arith, size, c.requires)) c.get.ensures.node
