-- Ranges of a root alone have the root, and of no nodes there are none.
use Rattle.std.proofs.Common.{◌≡◌, ◌<◌, [], ◌∷◌, length, sym, ap, ◌∙◌, subst, rules, arith}
use Rattle.space.specs.declared.node.Node.{Node}
use Rattle.maptree.specs.Origins.{AreRising}
use Rattle.maptree.specs.Cuts.{outside}
use Rattle.maptree.specs.TreeForms.{Gapped, nodes_of_tree}
use Rattle.maptree.proofs.Alone.{none_left, one_left}
use Rattle.maptree.proofs.tree_nodes.TreeNodes.remove_all.Goals.{in-Listed-2, in-Empty-2}
use Rattle.maptree.proofs.tree_nodes.TreeNodes.remove_all.Goals as goal

pub returns-then-not-is_empty-clause-nodes : goal.returns-then-not-is_empty-clause-nodes
returns-then-not-is_empty-clause-nodes c =
    let root : Node = record { place = c.in-Root.field-1; depth = 0 } in
    let one : root ∷ [] ≡ c.args.self.now.nodes = sym (ap nodes_of_tree c.in-Root.is) ∙ ap (λ (s : Gapped). s.nodes) c.self.view_is in
    let rise = subst (λ ns. AreRising 0 c.args.ranges.now (length ns)) (sym one) c.requires.rising in
    let some : 0 < length c.args.ranges.now = search (rules, arith) in
    let none : [] ≡ outside 0 c.args.ranges.now c.args.self.now.nodes = sym (one_left root c.args.ranges.now rise some) ∙ ap (outside 0 c.args.ranges.now) one in
    elim c.match-self-2.branch [ in-Listed-2 w ↦ ap (λ (s : Gapped). s.nodes) w.self-is ∙ none | in-Empty-2 w ↦ ap (λ (s : Gapped). s.nodes) w.self-is ∙ none ]

pub returns-in-Empty-clause-nodes : goal.returns-in-Empty-clause-nodes
returns-in-Empty-clause-nodes c =
    let none : [] ≡ c.args.self.now.nodes = sym (ap nodes_of_tree c.in-Empty.is) ∙ ap (λ (s : Gapped). s.nodes) c.self.view_is in
    ap nodes_of_tree c.in-Empty.is ∙ sym (none_left 0 c.args.ranges.now) ∙ ap (outside 0 c.args.ranges.now) none
