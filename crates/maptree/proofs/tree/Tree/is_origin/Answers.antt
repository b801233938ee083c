-- A node behind another derives from it where the run of the other reaches it.
use Rattle.std.proofs.Common.{◌≡◌, ◌-◌, nat_le, false, length, [], subst, sym, ap, ◌∙◌, arith}
use Rattle.std.specs.Prelude.{Decides}
use Rattle.space.specs.declared.place.Place.{Place}
use Rattle.maptree.specs.Origins.{Shape, place_at, LeadsTo}
use Rattle.maptree.proofs.Positions.{strict_upto, not_behind, length-links}
use Rattle.maptree.proofs.tree.Tree.is_origin.Goals as goal

pub returns-then-b-a : goal.returns-then-b-a
returns-then-b-a c =
    let nodes = c.self.inside.nodes.nodes in
    let size : length c.args.self.now.links ≡ length nodes = ap (λ (s : Shape). length s.links) (sym c.self.view_is) ∙ length-links [] nodes in
    subst (λ (s : Shape). (d : Place) → Decides false (LeadsTo s.links 1 (place_at s.links c.args.b d) (place_at s.links c.args.a d))) c.self.view_is
    (not_behind nodes c.args.a c.args.b c.self.invariant (omega (arith, size, c.requires.a)) (omega (arith, size, c.requires.b)) c.if-b-a.true)

pub returns : goal.returns
returns c =
    let nodes = c.self.inside.nodes.nodes in
    let size : length c.args.self.now.links ≡ length nodes = ap (λ (s : Shape). length s.links) (sym c.self.view_is) ∙ length-links [] nodes in
    subst (λ (s : Shape). (d : Place) → Decides (nat_le (c.args.b - c.args.a) c.run_of-derived.result.1) (LeadsTo s.links 1 (place_at s.links c.args.b d) (place_at s.links c.args.a d))) c.self.view_is
    (strict_upto nodes c.args.a c.args.b c.run_of-derived.result.1 c.run_of-derived.result.0 c.self.invariant c.if-b-a.false (omega (arith, size, c.requires.b)) c.run_of-derived.ensures.node c.run_of-derived.ensures.run)
