-- What is left of a tree is a tree.
use Rattle.std.proofs.Common.{◌≡◌, true, [], length, subst, sym, ap, ◌∙◌}
use Rattle.std.specs.List.{All}
use Rattle.maptree.specs.Origins.{Shape, IsRun, AreRising}
use Rattle.maptree.specs.Nodes.{is_forest, origins_of}
use Rattle.maptree.specs.Cuts.{outside}
use Rattle.maptree.proofs.Positions.{length-links}
use Rattle.maptree.proofs.Outside.{cut_forest}
use Rattle.maptree.proofs.tree.Tree.remove.Goals as goal

pub remove_all-requires-clause-forest : goal.remove_all-requires-clause-forest
remove_all-requires-clause-forest c =
    let ns = c.self.inside.nodes.nodes in
    let rise = subst (λ (s : Shape). AreRising 0 c.args.ranges.now (length s.links)) (sym c.self.view_is) c.requires.rising in
    (cut_forest ns c.args.ranges.now c.self.invariant (subst (AreRising 0 c.args.ranges.now) (length-links [] ns) rise)
    (subst (λ (s : Shape). All (IsRun s.links) c.args.ranges.now) (sym c.self.view_is) c.requires.runs)).0

left : (c : goal.After-remove_all) → (is_forest (outside 0 c.args.ranges.now c.self.inside.nodes.nodes) ≡ true) × (origins_of (outside 0 c.args.ranges.now c.self.inside.nodes.nodes) ≡ outside 0 c.args.ranges.now (origins_of c.self.inside.nodes.nodes))
left c =
    let ns = c.self.inside.nodes.nodes in
    let rise = subst (λ (s : Shape). AreRising 0 c.args.ranges.now (length s.links)) (sym c.self.view_is) c.requires.rising in
    cut_forest ns c.args.ranges.now c.self.invariant (subst (AreRising 0 c.args.ranges.now) (length-links [] ns) rise)
    (subst (λ (s : Shape). All (IsRun s.links) c.args.ranges.now) (sym c.self.view_is) c.requires.runs)

pub invariant_of-self : goal.invariant_of-self
invariant_of-self c = ap is_forest c.remove_all.ensures.nodes ∙ (left c).0

pub returns-clause-links : goal.returns-clause-links
returns-clause-links c = ap origins_of c.remove_all.ensures.nodes ∙ (left c).1 ∙ ap (λ (s : Shape). outside 0 c.args.ranges.now s.links) c.self.view_is
