-- Where none is less deep, there is no last one.
use Rattle.std.proofs.Common.{◌≡◌, sym, ap, ◌∙◌, take}
use Rattle.maptree.specs.Nodes.{last_less}
use Rattle.maptree.proofs.Depths.{none_less, least_take, first_alone}
use Rattle.maptree.proofs.block.Block.last_above.Goals.{then-depth-self-2, else-depth-self-2}
use Rattle.maptree.proofs.block.Block.last_above.Goals as goal

pub returns-then-depth-self : goal.returns-then-depth-self
returns-then-depth-self c =
    let nodes = c.self.inside.nodes.items in
    sym (ap (λ ns. last_less c.args.depth (take c.args.end ns)) (sym c.self.view_is)
    ∙ none_less c.args.depth c.self.inside.least (take c.args.end nodes) c.if-depth-self.true (least_take c.self.inside.least c.args.end nodes c.self.invariant.2))

pub returns : goal.returns
returns c =
    let nodes = c.self.inside.nodes.items in
    let depth = c.args.depth in
    let same : c.last_above_here.result ≡ last_less depth (take c.if-depth-self-2.end nodes) = c.last_above_here.ensures ∙ ap (λ ns. last_less depth (take c.if-depth-self-2.end ns)) (sym c.self.view_is) in
    let whole = ap (λ ns. last_less depth (take c.args.end ns)) c.self.view_is in
    elim c.if-depth-self-2.branch [
      | then-depth-self-2 w ↦ same ∙ ap (λ m. last_less depth (take m nodes)) (w.end-is ∙ w.min-end.ensures) ∙ sym (first_alone depth c.self.inside.behind c.args.end nodes w.if-depth-self-2.true c.self.invariant.3) ∙ whole
      | else-depth-self-2 w ↦ same ∙ ap (λ m. last_less depth (take m nodes)) w.end-is ∙ whole
    ]
