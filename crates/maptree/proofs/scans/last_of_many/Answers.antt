-- The search ends at a node that is less deep, and goes on at another.
use Rattle.std.proofs.Common.{◌≡◌, ℕ, ◌<◌, ◌≤◌, ◌-◌, suc, length, sym, ap, ◌∙◌, drop, arith}
use Rattle.maptree.specs.Nodes.{last_less}
use Rattle.maptree.proofs.LastLess.{last_at, last_on, last_of_none}
use Rattle.maptree.proofs.scans.last_of_many.Goals as goal

pub loop-i-init : goal.loop-i-init
loop-i-init c = last_of_none c.args.depth c.args.nodes.now _ (omega arith)

one : (i : ℕ) → 0 < i → suc (i - 1) ≡ i
one i some = omega (arith, some)

pub returns-then-nodes-i : goal.returns-then-nodes-i
returns-then-nodes-i c =
    let nodes = c.args.nodes.now in
    let next = one c.loop-i.i c.loop-i-test.true in
    let upto : c.loop-i.i ≤ length nodes = c.loop-i.auto.i in
    sym (last_at c.args.depth nodes (c.loop-i.i - 1) _ (omega (arith, upto, c.loop-i-test.true)) c.if-nodes-i.true (ap (λ k. last_less c.args.depth (drop k nodes)) next ∙ c.loop-i.invariant))

pub loop-i-preserved : goal.loop-i-preserved
loop-i-preserved c =
    let nodes = c.args.nodes.now in
    let next = one c.loop-i.i c.loop-i-test.true in
    let upto : c.loop-i.i ≤ length nodes = c.loop-i.auto.i in
    last_on c.args.depth nodes (c.loop-i.i - 1) _ (omega (arith, upto, c.loop-i-test.true)) c.if-nodes-i.false (ap (λ k. last_less c.args.depth (drop k nodes)) next ∙ c.loop-i.invariant)
