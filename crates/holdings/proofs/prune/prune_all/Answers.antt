-- One tree more.
use Rattle.std.proofs.Common.{get_or}
use Rattle.holdings.specs.Inner.StripPlans.{CanBePruned}
use Rattle.holdings.proofs.Planned.PrunedTrees.{can_next, next_set}
use Rattle.holdings.proofs.Planned.Trees.{one_pruned}
use Rattle.holdings.proofs.prune.prune_all.Goals as goal

can : (c : goal.After-as_slice) → CanBePruned c.args.shards.now (get_or c.loop-frame.trees c.frame-item.result.frame c.index-trees-frame.result).links c.as_slice.result.now
can c = can_next c.args.shards.now c.args.frames.now c.args.trees.now c.loop-frame.frame-index c.loop-frame.trees c.frame-item.result c.as_slice.result.now c.index-trees-frame.result c.loop-frame.invariant c.loop-frame-test.true c.frame-item.is c.as_slice.ensures c.index-trees-frame.is

pub prune-requires-clause-places : goal.prune-requires-clause-places
prune-requires-clause-places c = (can c).places

pub prune-requires-clause-rising : goal.prune-requires-clause-rising
prune-requires-clause-rising c = (can c).rising

pub prune-requires-clause-runs : goal.prune-requires-clause-runs
prune-requires-clause-runs c = (can c).runs_are

pub prune-requires-clause-outside : goal.prune-requires-clause-outside
prune-requires-clause-outside c = (can c).outside_stay

pub prune-requires-clause-origins : goal.prune-requires-clause-origins
prune-requires-clause-origins c = (can c).origins

pub loop-frame-preserved : goal.loop-frame-preserved
loop-frame-preserved c =
    one_pruned c.args.shards.now c.args.frames.now c.args.trees.now c.loop-frame.frame-index c.loop-frame.trees _ c.frame-item.result c.loop-frame.invariant c.loop-frame-test.true
    (next_set c.args.shards.now c.args.frames.now c.args.trees.now c.loop-frame.frame-index c.loop-frame.trees c.frame-item.result c.index-trees-frame.result c.prune.new.tree c.loop-frame.invariant c.loop-frame-test.true c.frame-item.is c.index-trees-frame.is c.in_ok-prune.ensures)
