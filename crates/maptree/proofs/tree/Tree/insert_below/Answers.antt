-- A node is put right behind another.
use Rattle.std.proofs.Common.{◌≡◌, ◌+◌, length, [], subst, sym, ap, ◌∙◌, arith, Some}
use Rattle.std.specs.Prelude.{position, insert}
use Rattle.space.specs.declared.place.Place.{Place}
use Rattle.space.specs.Place.{same_place}
use Rattle.space.specs.declared.node.Node.{Node}
use Rattle.maptree.specs.Origins.{Shape, place_at}
use Rattle.maptree.specs.Nodes.{is_forest, origins_of}
use Rattle.maptree.proofs.Positions.{length-links}
use Rattle.maptree.proofs.Insertion.{read_says, read_forest}
use Rattle.maptree.proofs.tree.Tree.insert_below.Goals as goal

pub invariant_of-self : goal.invariant_of-self
invariant_of-self c =
    let nodes = c.self.inside.nodes.nodes in
    let any : Node = record { place = c.args.place; depth = 0 } in
    let size : length c.args.self.now.links ≡ length nodes = ap (λ (s : Shape). length s.links) (sym c.self.view_is) ∙ length-links [] nodes in
    ap is_forest (c.insert_below.ensures.nodes any) ∙ read_forest c.args.place nodes c.args.i any c.self.invariant
    (ap (λ (s : Shape). position (λ o. same_place c.args.place o.0) s.links) c.self.view_is ∙ c.requires.new) (omega (arith, size, c.requires.within))

pub returns-clause-links : goal.returns-clause-links
returns-clause-links c =
    let nodes = c.self.inside.nodes.nodes in
    let any : Node = record { place = c.args.place; depth = 0 } in
    let size : length c.args.self.now.links ≡ length nodes = ap (λ (s : Shape). length s.links) (sym c.self.view_is) ∙ length-links [] nodes in
    subst (λ (s : Shape). (d : Place) → origins_of c.insert_below.new.self.nodes ≡ insert s.links (c.args.i + 1) (c.args.place, Some (place_at s.links c.args.i d))) c.self.view_is
    (λ d. ap origins_of (c.insert_below.ensures.nodes any) ∙ read_says c.args.place nodes c.args.i any c.self.invariant (omega (arith, size, c.requires.within)) d)
