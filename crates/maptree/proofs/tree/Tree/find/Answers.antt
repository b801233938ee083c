-- The position of a place.
use Rattle.std.proofs.Common.{◌≡◌, [], subst, sym, ◌∙◌, position}
use Rattle.space.specs.Place.{same_place}
use Rattle.maptree.specs.Origins.{Shape}
use Rattle.maptree.proofs.Positions.{position-links}
use Rattle.maptree.proofs.tree.Tree.find.Goals as goal

pub returns : goal.returns
returns c =
    subst (λ (s : Shape). c.find.result ≡ position (λ o. same_place c.args.place o.0) s.links) c.self.view_is
    (c.find.ensures ∙ sym (position-links c.args.place [] c.self.inside.nodes.nodes))
