-- What is kept is put back.
use Rattle.std.proofs.Common.{◌≡◌, subst, sym, ap, ◌∙◌}
use Rattle.maptree.specs.Origins.{Shape}
use Rattle.space.specs.Slices.{nodes_of}
use Rattle.maptree.specs.Cuts.{joined, AreKept}
use Rattle.maptree.proofs.Splicing.{IsPutBack, put_back}
use Rattle.maptree.proofs.tree.Tree.splice.Goals as goal

-- what the body has put together
back : (c : goal.After-drop-parts-2) (k : AreKept c.args.self.now c.args.parts.items) → IsPutBack c.put_back.new.self.nodes k.keep k.whole
back c k =
    let tree = c.self.inside in
    let items : c.put_back.new.self.nodes ≡ joined 0 tree.nodes.nodes c.args.self.now.gaps (nodes_of c.args.parts.items) =
    c.in_ok-put_back.ensures.nodes
    ∙ ap (λ gaps. joined 0 tree.nodes.nodes gaps (nodes_of c.deref.result.now)) (ap (λ (s : Shape). s.gaps) c.self.view_is)
    ∙ ap (λ parts. joined 0 tree.nodes.nodes c.args.self.now.gaps (nodes_of parts)) c.deref.ensures.value in
    subst (λ ns. IsPutBack ns k.keep k.whole) (sym items) (put_back tree.nodes.nodes c.args.self.now c.args.parts.items c.self.invariant (ap (λ (s : Shape). s.links) c.self.view_is) k)

pub invariant_of-self-2 : goal.invariant_of-self-2
invariant_of-self-2 c = (back c c.requires).forest

pub returns-clause-links : goal.returns-clause-links
returns-clause-links c = λ k. (back c k).links
