-- The origin of a node.
use Rattle.std.proofs.Common.{◌≡◌, ◌<◌, length, [], get_or, subst, sym, ap, ◌∙◌, arith, option_map}
use Rattle.std.proofs.lemmas.List.{get_or_default}
use Rattle.space.specs.declared.place.Place.{Place}
use Rattle.space.proofs.Lists.{blank}
use Rattle.maptree.specs.Origins.{Shape, origin_in, place_at}
use Rattle.maptree.proofs.Positions.{length-links}
use Rattle.maptree.proofs.Nearest.{nearest_before, nearest_says}
use Rattle.maptree.proofs.tree.Tree.origin_of.Goals as goal

pub returns-clause-before : goal.returns-clause-before
returns-clause-before c = let nodes = c.self.inside.nodes.nodes in nearest_before nodes c.args.i (get_or nodes c.args.i blank).depth c.origin_of.result (c.origin_of.ensures blank)

pub returns-clause-origin : goal.returns-clause-origin
returns-clause-origin c =
    let nodes = c.self.inside.nodes.nodes in
    let n = get_or nodes c.args.i blank in
    let size : length c.args.self.now.links ≡ length nodes = ap (λ (s : Shape). length s.links) (sym c.self.view_is) ∙ length-links [] nodes in
    let within : c.args.i < length nodes = omega (arith, size, c.requires) in
    subst (λ (s : Shape). (d : Place) → origin_in s.links (place_at s.links c.args.i d) ≡ option_map (λ r. place_at s.links r d) c.origin_of.result) c.self.view_is
    (nearest_says nodes c.self.invariant c.args.i n within (get_or_default nodes c.args.i blank n within) c.origin_of.result (c.origin_of.ensures blank))
