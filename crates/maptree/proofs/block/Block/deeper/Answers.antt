-- Where all are deeper, the run has all.
use Rattle.std.proofs.Common.{◌≡◌, ◌-◌, sym, ap, ◌∙◌, drop, length, rules, arith}
use Rattle.std.proofs.lemmas.List.{length-drop}
use Rattle.maptree.specs.Nodes.{run_len}
use Rattle.maptree.proofs.Depths.{all_deeper, least_drop}
use Rattle.maptree.proofs.block.Block.deeper.Goals as goal

pub returns-then-depth-self : goal.returns-then-depth-self
returns-then-depth-self c =
    let nodes = c.self.inside.nodes.items in
    let all : run_len c.args.depth (drop c.args.from c.args.self.now) ≡ length c.args.self.now - c.args.from =
    ap (λ ns. run_len c.args.depth (drop c.args.from ns)) (sym c.self.view_is)
    ∙ all_deeper c.args.depth c.self.inside.least (drop c.args.from nodes) c.if-depth-self.true (least_drop c.self.inside.least c.args.from nodes c.self.invariant.2)
    ∙ length-drop c.args.from nodes ∙ ap (λ ns. length ns - c.args.from) c.self.view_is in
    search (rules, arith, all)
