-- One block more is counted.
use Rattle.std.proofs.Common.{get_or, take, rules, arith}
use Rattle.maptree.proofs.InBlocks.{Counts, counts}
use Rattle.maptree.proofs.Starts.{starts_more, starts_all, none_above}
use Rattle.maptree.proofs.blocks.count.Goals as goal

counted : (c : goal.After-len-before) → Counts c.args.blocks.now c.loop-block.block-index (get_or c.args.blocks.now c.loop-block.block-index c.block-item.result)
counted c = counts c.args.blocks.now c.loop-block.block-index _ c.loop-block-test.true (search rules)

pub push-requires-clause-rising : goal.push-requires-clause-rising
push-requires-clause-rising c = none_above (take c.loop-block.block-index c.args.blocks.now) c.loop-block.starts c.loop-block.before c.loop-block.invariant.so_far c.loop-block.invariant.before

pub overflow_add-before : goal.overflow_add-before
overflow_add-before c = let upto = (counted c).upto in search (rules, arith, upto)

pub loop-block-preserved : goal.loop-block-preserved
loop-block-preserved c =
    let next = (counted c).next in
    record {
      so_far = starts_more c.args.blocks.now c.loop-block.block-index c.loop-block.before c.loop-block.starts _ c.loop-block-test.true c.loop-block.invariant.so_far c.loop-block.invariant.before c.push.ensures.count c.push.ensures.others c.push.ensures.last;
      before = search (rules, arith, next);
      capacity = search (rules, arith);
    }

pub returns-clause-starts : goal.returns-clause-starts
returns-clause-starts c = starts_all c.args.blocks.now c.loop-block.block-index c.loop-block.starts (search (rules, arith)) c.loop-block.invariant.so_far
