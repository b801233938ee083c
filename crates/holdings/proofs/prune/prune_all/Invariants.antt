-- The trees so far have lost their places.
use Rattle.holdings.proofs.Planned.Trees.{ArePrunedUpTo}
use Rattle.holdings.proofs.prune.prune_all.Given as goal

abbrev pub invariant-loop-frame : goal.invariant-loop-frame
invariant-loop-frame l = ArePrunedUpTo l.shards l.frames l.fn.trees l.frame-index l.trees
