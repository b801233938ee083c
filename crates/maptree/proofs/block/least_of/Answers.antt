-- One node more.
use Rattle.std.proofs.Common.{[], ◌∷◌, ◌≤◌, take, get_or, ap, ◌∙◌, rules, arith}
use Rattle.std.proofs.lemmas.List.{take_more}
use Rattle.maptree.specs.Blocks.{is_least}
use Rattle.maptree.proofs.Depths.{least_less, least_append, least_one}
use Rattle.maptree.proofs.block.least_of.Goals as goal

pub loop-node-preserved : goal.loop-node-preserved
loop-node-preserved c =
    let nodes = c.args.nodes.now in
    let node = get_or nodes c.loop-node.node-index (record { place = record { space = 0; page = 0 }; depth = 0 }) in
    let front : c.min-least.result ≤ c.loop-node.least = search (rules, arith) in
    let here : c.min-least.result ≤ node.depth = search (rules, arith) in
    ap (is_least c.min-least.result) (take_more nodes c.loop-node.node-index _ c.loop-node-test.true)
    ∙ least_append c.min-least.result (take c.loop-node.node-index nodes) (node ∷ []) (least_less c.min-least.result c.loop-node.least _ front c.loop-node.invariant) (least_one c.min-least.result node here)
