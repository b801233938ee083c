-- What is left of a tree, and the parts.
use Rattle.std.proofs.Common.{length, subst, sym, ap, ◌∙◌}
use Rattle.std.specs.List.{All}
use Rattle.maptree.specs.Origins.{Shape, IsRun, AreRising}
use Rattle.maptree.specs.Nodes.{origins_of}
use Rattle.space.specs.Slices.{nodes_of}
use Rattle.maptree.specs.Cuts.{outside, ArePartsOf, IsCut}
use Rattle.maptree.proofs.Outside.{IsCutOut, cut_out}
use Rattle.maptree.proofs.tree.Tree.cut.Goals as goal

out : (c : goal.In_ok-parts) → IsCutOut c.self.inside.nodes.nodes c.args.ranges.now c.args.most c.cut.new.self.nodes c.cut.new.self.gaps c.in_ok-parts.parts.items
out c =
    cut_out c.self.inside.nodes.nodes c.args.ranges.now c.args.most c.cut.new.self.nodes c.cut.new.self.gaps c.in_ok-parts.parts.items c.self.invariant
    (subst (λ (s : Shape). AreRising 0 c.args.ranges.now (length s.links)) (sym c.self.view_is) c.requires.rising)
    (subst (λ (s : Shape). All (IsRun s.links) c.args.ranges.now) (sym c.self.view_is) c.requires.runs)
    c.in_ok-parts.ensures.nodes c.in_ok-parts.ensures.parts c.in_ok-parts.ensures.whole

pub invariant_of-self-2 : goal.invariant_of-self-2
invariant_of-self-2 c = (out c).forest

pub returns-clause-links : goal.returns-clause-links
returns-clause-links c = (out c).links ∙ ap (λ (s : Shape). outside 0 c.args.ranges.now s.links) c.self.view_is

pub returns-clause-parts : goal.returns-clause-parts
returns-clause-parts c = subst (λ (s : Shape). ArePartsOf s.links c.args.ranges.now c.args.most c.in_ok-parts.parts.items) c.self.view_is (out c).parts

pub returns-clause-cut : goal.returns-clause-cut
returns-clause-cut c =
    subst (λ (s : Shape). IsCut s.links (nodes_of c.in_ok-parts.parts.items) (record { links = origins_of c.cut.new.self.nodes; room = c.cut.new.self.room; gaps = c.cut.new.self.gaps })) c.self.view_is
    ((out c).cut c.cut.new.self.room)
