-- The outermost runs of the nodes so far.
use Rattle.std.proofs.Common.{◌+◌, ◌≤◌, length, get_or, sym, ◌∙◌, subst, arith, rules}
use Rattle.space.proofs.Lists.{blank}
use Rattle.maptree.proofs.Outermost.{AreSoFar, one_passed, one_more_run, all_runs, run_within}
use Rattle.space.proofs.Lists.{read_any}
use Rattle.maptree.proofs.Positions.{run_is}
use Rattle.maptree.proofs.scans.outermost.Goals as goal

pub overflow_add-end-then-contains : goal.overflow_add-end-then-contains
overflow_add-end-then-contains c =
    let nodes = c.args.nodes.now in
    let n = get_or nodes c.loop-i.i blank in
    let same = run_is nodes c.loop-i.i _ n c.loop-i-test.true (read_any nodes c.loop-i.i blank n c.loop-i-test.true) c.deeper.ensures in
    let upto = run_within nodes c.loop-i.i c.loop-i-test.true in
    let most : c.loop-i.i + 1 + c.deeper.result ≤ length nodes = omega (arith, same, upto) in
    search (rules, arith, most)

pub loop-i-preserved-then-contains : goal.loop-i-preserved-then-contains
loop-i-preserved-then-contains c =
    let nodes = c.args.nodes.now in
    let n = get_or nodes c.loop-i.i blank in
    let filled = c.in_ok-push.ensures.items in
    subst (λ rs. AreSoFar nodes c.args.named.now.keys (c.loop-i.i + 1 + c.deeper.result) rs) (sym filled)
    (one_more_run nodes _ c.loop-i.i _ n _ c.loop-i.invariant c.requires c.loop-i-test.true (read_any nodes c.loop-i.i blank n c.loop-i-test.true) (sym c.contains.ensures ∙ c.if-contains.true) c.deeper.ensures)

pub loop-i-preserved : goal.loop-i-preserved
loop-i-preserved c =
    let nodes = c.args.nodes.now in
    let n = get_or nodes c.loop-i.i blank in
    one_passed nodes _ c.loop-i.i n _ c.loop-i.invariant c.loop-i-test.true (read_any nodes c.loop-i.i blank n c.loop-i-test.true) (sym c.contains.ensures ∙ c.if-contains.false)

pub returns : goal.returns
returns c = all_runs _ _ _ _ c.loop-i.invariant c.requires c.loop-i-test.false
