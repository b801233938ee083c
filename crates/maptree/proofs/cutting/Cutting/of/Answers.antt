-- One more range is taken.
use Rattle.std.proofs.Common.{rules, arith, length}
use Rattle.maptree.proofs.Cuttings.{next_range, rising_within, taken_range, gaps_left, all_taken}
use Rattle.maptree.proofs.cutting.Cutting.of.Goals as goal

pub overflow_add-cutting : goal.overflow_add-cutting
overflow_add-cutting c =
    let next = next_range c.loop-range.from c.loop-range.range-index c.args.ranges.now (length c.args.list.now.nodes) (record { start = 0; end = 0 }) c.loop-range.invariant.rising c.loop-range-test.true in
    let upto = c.loop-range.invariant.upto in
    let from = next.0 in
    search (rules, arith, upto, from)

pub take-requires-clause-within : goal.take-requires-clause-within
take-requires-clause-within c =
    let next = next_range c.loop-range.from c.loop-range.range-index c.args.ranges.now (length c.args.list.now.nodes) (record { start = 0; end = 0 }) c.loop-range.invariant.rising c.loop-range-test.true in
    let most = rising_within _ _ _ next.2 in
    search (rules, arith, most)

pub take-requires-clause-gaps : goal.take-requires-clause-gaps
take-requires-clause-gaps c =
    let inv = c.loop-range.invariant in
    let count = inv.count in
    gaps_left 0 (length inv.left) _ _ inv.whole.gaps_are (omega (arith, count))

pub loop-range-preserved : goal.loop-range-preserved
loop-range-preserved c =
    taken_range c.args.most c.args.list.now.nodes c.args.ranges.now c.loop-range.range-index c.loop-range.from (record { start = 0; end = 0 }) c.loop-range.cutting _
    c.loop-range-test.true c.loop-range.invariant c.take.ensures.left c.in_ok-take.ensures.parts c.in_ok-take.ensures.whole

pub returns-clause-whole : goal.returns-clause-whole
returns-clause-whole c = (all_taken c.args.most c.args.list.now.nodes c.args.ranges.now c.loop-range.range-index c.loop-range.from c.loop-range.cutting (search (rules, arith)) c.loop-range.invariant).1
