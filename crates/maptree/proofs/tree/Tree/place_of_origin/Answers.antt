-- The place of the nearest node that is less deep.
use Rattle.std.proofs.Common.{◌≡◌, length, [], subst, sym, ap, ◌∙◌, arith}
use Rattle.space.proofs.Lists.{blank}
use Rattle.maptree.specs.Origins.{Shape, IsOriginAt}
use Rattle.maptree.proofs.Positions.{length-links}
use Rattle.maptree.proofs.Nearest.{nearest_place}
use Rattle.maptree.proofs.tree.Tree.place_of_origin.Goals as goal

pub returns : goal.returns
returns c =
    let nodes = c.self.inside.nodes.nodes in
    let size : length c.args.self.now.links ≡ length nodes = ap (λ (s : Shape). length s.links) (sym c.self.view_is) ∙ length-links [] nodes in
    subst (λ (s : Shape). IsOriginAt s.links c.args.i c.place_of_origin.result) c.self.view_is
    (nearest_place nodes c.self.invariant c.args.i (omega (arith, size, c.requires)) c.place_of_origin.result (c.place_of_origin.ensures blank))
