-- One node more.
use Rattle.std.proofs.Common.{[], ◌∷◌, ◌≤◌, take, get_or, ap, ◌∙◌, rules, arith}
use Rattle.std.proofs.lemmas.List.{take_more}
use Rattle.maptree.specs.Blocks.{is_most}
use Rattle.maptree.proofs.Deepest.{most_more, most_append, most_one}
use Rattle.maptree.proofs.block.most_of.Goals as goal

pub loop-node-preserved : goal.loop-node-preserved
loop-node-preserved c =
    let nodes = c.args.nodes.now in
    let node = get_or nodes c.loop-node.node-index (record { place = record { space = 0; page = 0 }; depth = 0 }) in
    let front : c.loop-node.most ≤ c.max-most.result = search (rules, arith) in
    let here : node.depth ≤ c.max-most.result = search (rules, arith) in
    ap (is_most c.max-most.result) (take_more nodes c.loop-node.node-index _ c.loop-node-test.true)
    ∙ most_append c.max-most.result (take c.loop-node.node-index nodes) (node ∷ []) (most_more c.loop-node.most c.max-most.result _ front c.loop-node.invariant) (most_one c.max-most.result node here)
