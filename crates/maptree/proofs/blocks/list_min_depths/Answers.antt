-- One block more is listed.
use Rattle.std.proofs.Common.{rules, arith}
use Rattle.maptree.proofs.MinDepths.{min_depths_more, min_depths_all}
use Rattle.maptree.proofs.blocks.list_min_depths.Goals as goal

pub loop-block-preserved : goal.loop-block-preserved
loop-block-preserved c = record {
  so_far = min_depths_more c.args.blocks.now c.loop-block.block-index c.block-item.result c.loop-block.min_depths.min_depths _ c.least.result c.loop-block-test.true (search rules) c.loop-block.invariant.so_far c.least.ensures (search rules);
  capacity = search (rules, arith);
}

pub returns-clause-min_depths : goal.returns-clause-min_depths
returns-clause-min_depths c = min_depths_all c.args.blocks.now c.loop-block.block-index c.loop-block.min_depths.min_depths (search (rules, arith)) c.loop-block.invariant.so_far
