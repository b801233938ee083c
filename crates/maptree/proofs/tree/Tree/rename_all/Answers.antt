-- The nodes with their new places are a forest, and the tree with its places replaced.
use Rattle.std.proofs.Common.{subst, sym, ap, ◌∙◌}
use Rattle.std.proofs.lemmas.Bool.{and_parts}
use Rattle.maptree.specs.Origins.{Shape}
use Rattle.maptree.specs.Nodes.{are_depths, are_distinct, is_forest, origins_of}
use Rattle.maptree.specs.PlaceMaps.{place_for}
use Rattle.maptree.specs.Renamings.{all_renamed, StayApart}
use Rattle.maptree.proofs.ManyRenamed.{all_renamed_says, all_renamed_forest}
use Rattle.maptree.proofs.tree.Tree.rename_all.Goals as goal

pub replace-requires-clause-distinct : goal.replace-requires-clause-distinct
replace-requires-clause-distinct c = let nodes = c.self.inside.nodes.nodes in (and_parts (are_depths 0 nodes) (are_distinct nodes) c.self.invariant).1

pub replace-requires-clause-apart : goal.replace-requires-clause-apart
replace-requires-clause-apart c = subst (λ (s : Shape). StayApart (place_for c.args.new.now) s.links) (sym c.self.view_is) c.requires.apart

pub invariant_of-self : goal.invariant_of-self
invariant_of-self c =
    let new = place_for c.args.new.now in
    ap is_forest c.replace.ensures.nodes ∙ all_renamed_forest new c.self.inside.nodes.nodes c.self.invariant (subst (λ (s : Shape). StayApart new s.links) (sym c.self.view_is) c.requires.apart)

pub returns-clause-links : goal.returns-clause-links
returns-clause-links c =
    let new = place_for c.args.new.now in
    ap origins_of c.replace.ensures.nodes ∙ all_renamed_says new c.self.inside.nodes.nodes ∙ ap (λ (s : Shape). all_renamed new s.links) c.self.view_is
