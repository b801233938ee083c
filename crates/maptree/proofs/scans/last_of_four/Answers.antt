-- One node more is the last, or changes nothing.
use Rattle.std.proofs.Common.{◌≡◌, ℕ, ◌<◌, List, length, ◌∙◌, sym, ap, arith}
use Rattle.space.specs.declared.node.Node.{Node}
use Rattle.std.proofs.lemmas.List.{take_all}
use Rattle.maptree.specs.Nodes.{last_less}
use Rattle.maptree.proofs.LastLess.{last_more_low, last_more_deep}
use Rattle.maptree.proofs.scans.last_of_four.Goals.{then-nodes-i, else-nodes-i}
use Rattle.maptree.proofs.scans.last_of_four.Goals as goal

inside : (ns : List Node) (i : ℕ) → length ns ≡ 4 → i < 4 → i < length ns
inside ns i four less = omega (arith, four, less)

pub loop-i-preserved : goal.loop-i-preserved
loop-i-preserved c =
    elim c.if-nodes-i.branch [
      | then-nodes-i w ↦ w.last-is ∙ sym (last_more_low c.args.depth c.args.nodes.now c.loop-i.i _ (inside c.args.nodes.now c.loop-i.i c.requires c.loop-i-test.true) w.if-nodes-i.true)
      | else-nodes-i w ↦ w.last-is ∙ c.loop-i.invariant ∙ sym (last_more_deep c.args.depth c.args.nodes.now c.loop-i.i _ (inside c.args.nodes.now c.loop-i.i c.requires c.loop-i-test.true) w.if-nodes-i.false)
    ]

pub returns : goal.returns
returns c = let all = take_all c.loop-i.i c.args.nodes.now (let end = c.loop-i-test.false in omega (arith, c.requires, end)) in c.loop-i.invariant ∙ ap (last_less c.args.depth) all
