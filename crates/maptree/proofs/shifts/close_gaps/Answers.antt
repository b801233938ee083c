-- One more range is closed up.
use Rattle.std.proofs.Common.{rules, arith, length}
use Rattle.maptree.proofs.Cuttings.{next_range, rising_within, closed_range, closed_end}
use Rattle.maptree.proofs.shifts.close_gaps.Goals as goal

pub copy_within-requires-clause-in_bounds : goal.copy_within-requires-clause-in_bounds
copy_within-requires-clause-in_bounds c =
    let inv = c.loop-range.invariant in
    let next = next_range c.loop-range.from c.loop-range.range-index c.args.ranges.now (length c.args.nodes.now) (record { start = 0; end = 0 }) inv.rising c.loop-range-test.true in
    let most = rising_within _ _ _ next.2 in
    let less = next.1 in
    let size = inv.size in
    search (rules, arith, most, less, size)

pub copy_within-requires-clause-dest_in_bounds : goal.copy_within-requires-clause-dest_in_bounds
copy_within-requires-clause-dest_in_bounds c =
    let inv = c.loop-range.invariant in
    let next = next_range c.loop-range.from c.loop-range.range-index c.args.ranges.now (length c.args.nodes.now) (record { start = 0; end = 0 }) inv.rising c.loop-range-test.true in
    let most = rising_within _ _ _ next.2 in
    let less = next.1 in
    let from = next.0 in
    let size = inv.size in
    let upto = inv.upto in
    search (rules, arith, most, less, from, size, upto)

pub loop-range-preserved : goal.loop-range-preserved
loop-range-preserved c =
    closed_range c.args.nodes.now c.args.ranges.now c.loop-range.range-index c.loop-range.from c.loop-range.kept (record { start = 0; end = 0 }) c.loop-range.nodes _ c.loop-range-test.true c.loop-range.invariant c.copy_within.ensures.after

pub returns-clause-nodes : goal.returns-clause-nodes
returns-clause-nodes c =
    closed_end c.args.nodes.now c.args.ranges.now c.loop-range.range-index c.loop-range.from c.loop-range.kept (length c.loop-range.nodes) c.loop-range.nodes _ (search (rules, arith)) c.loop-range.invariant.size c.loop-range.invariant c.copy_within-2.ensures.after
