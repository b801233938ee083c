-- One tree more.
use Rattle.std.proofs.Common.{◌≡◌, ℕ, ◌<◌, ◌+◌, ◌++◌, ◌∷◌, [], None, length, is_ok, sym, ap, ◌∙◌, subst, if◌then◌else◌}
use Rattle.holdings.specs.Inner.Held.{links_in}
use Rattle.holdings.specs.Inner.Start.{root_place}
use Rattle.holdings.proofs.Trees.Positions.{one_tree_more}
use Rattle.holdings.proofs.start.root_trees.Goals as goal

pub loop-frame-preserved : goal.loop-frame-preserved
loop-frame-preserved c =
    let went = sym c.map_err.ensures.variant ∙ ap is_ok c.in_ok-map_err.was in
    let items : c.push.new.self.items ≡ c.loop-frame.trees.items ++ c.root-tree.result ∷ [] = c.push.ensures.items ∙ ap (λ b. if b then c.loop-frame.trees.items ++ c.root-tree.result ∷ [] else c.loop-frame.trees.items) went in
    let root : c.root-tree.result.links ≡ (root_place c.loop-frame.frame, None) ∷ [] = c.root-tree.ensures ∙ ap (λ p. (p, None) ∷ []) c.root_place.ensures in
    subst (λ trees. record { count : length trees ≡ c.loop-frame.frame + 1; roots : (f : ℕ) → f < c.loop-frame.frame + 1 → links_in trees f ≡ (root_place f, None) ∷ [] }) (sym items)
    (one_tree_more c.loop-frame.trees.items c.root-tree.result c.loop-frame.frame c.loop-frame.invariant.count c.loop-frame.invariant.roots root)
