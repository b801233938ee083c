-- The origins of the frames so far.
use Rattle.holdings.specs.Inner.WordOrigins.{AreOrigins}
use Rattle.holdings.proofs.origins.origins_by_word.Given as goal

abbrev pub invariant-loop-frame : goal.invariant-loop-frame
invariant-loop-frame l = AreOrigins l.shards l.trees l.frame l.origins.items
