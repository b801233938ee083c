-- The search ends at a node that is less deep, and goes on at another.
use Rattle.std.proofs.Common.{◌≡◌, ℕ, ◌<◌, ◌≤◌, ◌-◌, suc, List, length, subst, sym, ap, ◌∙◌, take, drop, arith}
use Rattle.std.specs.Prelude.{reverse}
use Rattle.std.proofs.lemmas.List.{length-reverse, length-take-le, get_or-take}
use Rattle.space.specs.declared.node.Node.{Node}
use Rattle.maptree.specs.Nodes.{last_less}
use Rattle.maptree.proofs.LastLess.{last_at, last_on, last_of_none}
use Rattle.maptree.proofs.backward.last_above.Goals as goal

size : (ns : List Node) (i : ℕ) → i ≤ length ns → length (take i (reverse ns)) ≡ i
size ns i within = length-take-le i (reverse ns) (let r = length-reverse ns in omega (arith, r, within))

one : (i : ℕ) → 0 < i → suc (i - 1) ≡ i
one i some = omega (arith, some)

pub loop-k-init : goal.loop-k-init
loop-k-init c = let count = size c.args.backward.now c.args.i c.requires in last_of_none c.args.depth (take c.args.i (reverse c.args.backward.now)) c.args.i (omega (arith, count))

pub returns-then-node_at-depth : goal.returns-then-node_at-depth
returns-then-node_at-depth c =
    let nodes = take c.args.i (reverse c.args.backward.now) in
    let count = size c.args.backward.now c.args.i c.requires in
    let next = one c.loop-k.k c.loop-k-test.true in
    let upto : c.loop-k.k ≤ c.args.i = c.loop-k.auto.k in
    let read = c.node_at.ensures ∙ sym (get_or-take c.args.i (reverse c.args.backward.now) (c.loop-k.k - 1) c.node_at.result (omega (arith, upto, c.loop-k-test.true))) in
    sym (last_at c.args.depth nodes (c.loop-k.k - 1) c.node_at.result (omega (arith, upto, count, c.loop-k-test.true)) (subst (λ (n : Node). n.depth < c.args.depth) read c.if-node_at-depth.true)
    (ap (λ k. last_less c.args.depth (drop k nodes)) next ∙ c.loop-k.invariant))

pub loop-k-preserved : goal.loop-k-preserved
loop-k-preserved c =
    let nodes = take c.args.i (reverse c.args.backward.now) in
    let count = size c.args.backward.now c.args.i c.requires in
    let next = one c.loop-k.k c.loop-k-test.true in
    let upto : c.loop-k.k ≤ c.args.i = c.loop-k.auto.k in
    let read = c.node_at.ensures ∙ sym (get_or-take c.args.i (reverse c.args.backward.now) (c.loop-k.k - 1) c.node_at.result (omega (arith, upto, c.loop-k-test.true))) in
    last_on c.args.depth nodes (c.loop-k.k - 1) c.node_at.result (omega (arith, upto, count, c.loop-k-test.true)) (subst (λ (n : Node). c.args.depth ≤ n.depth) read c.if-node_at-depth.false)
    (ap (λ k. last_less c.args.depth (drop k nodes)) next ∙ c.loop-k.invariant)
