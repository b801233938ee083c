-- The copied nodes stand in the tree.
use Rattle.std.proofs.Common.{◌≡◌, map, ap, sym, ◌∙◌, subst}
use Rattle.std.specs.List.{All, slice_range}
use Rattle.space.specs.declared.node.Node.{Node}
use Rattle.maptree.specs.Nodes.{origins_of}
use Rattle.maptree.specs.Origins.{Shape, HasDepth}
use Rattle.maptree.proofs.Outside.{part_places, part_depths}
use Rattle.maptree.proofs.tree.Tree.part.Goals as goal

pub returns-clause-places : goal.returns-clause-places
returns-clause-places c =
    let ns = c.self.inside.nodes.nodes in
    let copied = c.in_ok-nodes.nodes.items in
    subst (λ (s : Shape). map (λ (n : Node). n.place) copied ≡ slice_range (map (λ o. o.0) s.links) c.args.from c.args.to) c.self.view_is
    (ap (map (λ (n : Node). n.place)) c.in_ok-nodes.ensures ∙ part_places ns c.args.from c.args.to)

pub returns-clause-depths : goal.returns-clause-depths
returns-clause-depths c =
    let ns = c.self.inside.nodes.nodes in
    let copied = c.in_ok-nodes.nodes.items in
    subst (λ (s : Shape). All (λ n. HasDepth s.links n.place n.depth) copied) c.self.view_is
    (subst (All (λ n. HasDepth (origins_of ns) n.place n.depth)) (sym c.in_ok-nodes.ensures) (part_depths ns c.args.from c.args.to c.self.invariant))
