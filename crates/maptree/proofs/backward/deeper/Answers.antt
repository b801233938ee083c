-- The nodes are read in the order of the list.
use Rattle.std.proofs.Common.{◌<◌, ◌≤◌, ◌+◌, ◌-◌, subst, sym, ap, ◌∙◌, arith}
use Rattle.std.specs.Prelude.{reverse}
use Rattle.std.proofs.lemmas.List.{length-reverse}
use Rattle.space.specs.declared.node.Node.{Node}
use Rattle.maptree.proofs.Reversed.{deeper_begins, deeper_goes, deeper_stops, deeper_ends}
use Rattle.maptree.proofs.backward.deeper.Goals as goal

pub loop-k-init : goal.loop-k-init
loop-k-init c =
    let size = length-reverse c.args.backward.now in
    deeper_begins c.args.depth (c.args.i + 1) (reverse c.args.backward.now) (omega (arith, size, c.requires))

pub returns-then-node_at-depth : goal.returns-then-node_at-depth
returns-then-node_at-depth c =
    let size = length-reverse c.args.backward.now in
    deeper_stops c.args.depth (c.args.i + 1) (reverse c.args.backward.now) c.loop-k.k c.node_at.result c.loop-k.invariant (omega (arith, size, c.loop-k-test.true))
    (subst (λ (n : Node). n.depth ≤ c.args.depth) c.node_at.ensures c.if-node_at-depth.true)

pub loop-k-preserved : goal.loop-k-preserved
loop-k-preserved c =
    let size = length-reverse c.args.backward.now in
    deeper_goes c.args.depth (c.args.i + 1) (reverse c.args.backward.now) c.loop-k.k c.node_at.result c.loop-k.invariant (omega (arith, size, c.loop-k-test.true))
    (subst (λ (n : Node). c.args.depth < n.depth) c.node_at.ensures c.if-node_at-depth.false)

pub returns : goal.returns
returns c =
    let size = length-reverse c.args.backward.now in
    ap (λ n. n - (c.args.i + 1)) (sym size)
    ∙ deeper_ends c.args.depth (c.args.i + 1) (reverse c.args.backward.now) c.loop-k.k c.loop-k.invariant (omega (arith, size, c.loop-k-test.false))
