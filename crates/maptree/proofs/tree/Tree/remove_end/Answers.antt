-- What is left of a tree is a tree.
use Rattle.std.proofs.Common.{◌≡◌, ◌≤◌, true, [], ◌∷◌, length, subst, sym, ap, ◌∙◌, arith}
use Rattle.maptree.specs.Origins.{Shape, IsRun}
use Rattle.maptree.specs.Nodes.{is_forest, origins_of}
use Rattle.maptree.specs.Cuts.{outside}
use Rattle.maptree.proofs.Positions.{length-links}
use Rattle.maptree.proofs.Outside.{end_forest}
use Rattle.maptree.proofs.tree.Tree.remove_end.Goals as goal

pub remove_all-requires-clause-forest : goal.remove_all-requires-clause-forest
remove_all-requires-clause-forest c =
    let size = ap (λ (s : Shape). length s.links) c.self.view_is in let same = length-links [] c.self.inside.nodes.nodes in
    (end_forest c.self.inside.nodes.nodes c.args.run.now c.args.from c.self.invariant (subst (λ (s : Shape). IsRun s.links c.args.run.now) (sym c.self.view_is) c.requires.run) c.requires.behind c.requires.some
    (omega (arith, size, same, c.requires.within))).0

within : (c : goal.After-remove_all) → c.args.run.now.end ≤ length c.self.inside.nodes.nodes
within c = let size = ap (λ (s : Shape). length s.links) c.self.view_is in let same = length-links [] c.self.inside.nodes.nodes in omega (arith, size, same, c.requires.within)

left : (c : goal.After-remove_all) → (is_forest (outside 0 (record { start = c.args.from; end = c.args.run.now.end } ∷ []) c.self.inside.nodes.nodes) ≡ true)
    × (origins_of (outside 0 (record { start = c.args.from; end = c.args.run.now.end } ∷ []) c.self.inside.nodes.nodes) ≡ outside 0 (record { start = c.args.from; end = c.args.run.now.end } ∷ []) (origins_of c.self.inside.nodes.nodes))
left c =
    end_forest c.self.inside.nodes.nodes c.args.run.now c.args.from c.self.invariant (subst (λ (s : Shape). IsRun s.links c.args.run.now) (sym c.self.view_is) c.requires.run) c.requires.behind c.requires.some (within c)

pub invariant_of-self : goal.invariant_of-self
invariant_of-self c = ap is_forest c.remove_all.ensures.nodes ∙ (left c).0

pub returns-clause-links : goal.returns-clause-links
returns-clause-links c = ap origins_of c.remove_all.ensures.nodes ∙ (left c).1 ∙ ap (λ (s : Shape). outside 0 (record { start = c.args.from; end = c.args.run.now.end } ∷ []) s.links) c.self.view_is
