-- A node has another place.
use Rattle.std.proofs.Common.{◌≡◌, length, [], subst, sym, ap, ◌∙◌, arith, get_or}
use Rattle.std.specs.Prelude.{position}
use Rattle.space.specs.declared.place.Place.{Place}
use Rattle.space.specs.Place.{same_place}
use Rattle.maptree.specs.Origins.{Shape, place_at, renamed}
use Rattle.maptree.specs.Nodes.{is_forest, origins_of}
use Rattle.space.proofs.Lists.{blank, read_any}
use Rattle.maptree.proofs.Positions.{length-links}
use Rattle.maptree.proofs.Renaming.{renamed_says, renamed_forest}
use Rattle.maptree.proofs.tree.Tree.rename.Goals as goal

pub invariant_of-self : goal.invariant_of-self
invariant_of-self c =
    let nodes = c.self.inside.nodes.nodes in
    let size : length c.args.self.now.links ≡ length nodes = ap (λ (s : Shape). length s.links) (sym c.self.view_is) ∙ length-links [] nodes in
    let node = get_or nodes c.args.i blank in
    let within = c.requires.within in
    ap is_forest (c.set_place.ensures.nodes blank)
    ∙ renamed_forest c.args.place nodes c.args.i node c.self.invariant
    (ap (λ (s : Shape). position (λ o. same_place c.args.place o.0) s.links) c.self.view_is ∙ c.requires.new) (omega (arith, size, within)) (read_any nodes c.args.i blank node (omega (arith, size, within)))

pub returns-clause-links : goal.returns-clause-links
returns-clause-links c =
    let nodes = c.self.inside.nodes.nodes in
    let size : length c.args.self.now.links ≡ length nodes = ap (λ (s : Shape). length s.links) (sym c.self.view_is) ∙ length-links [] nodes in
    let node = get_or nodes c.args.i blank in
    let within = c.requires.within in
    subst (λ (s : Shape). (d : Place) → origins_of c.set_place.new.self.nodes ≡ renamed (place_at s.links c.args.i d) c.args.place s.links) c.self.view_is
    (λ d. ap origins_of (c.set_place.ensures.nodes blank) ∙ renamed_says c.args.place nodes c.args.i node c.self.invariant (omega (arith, size, within)) (read_any nodes c.args.i blank node (omega (arith, size, within))) d)
