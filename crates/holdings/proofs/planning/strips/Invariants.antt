-- The strips of the frames so far.
use Rattle.std.proofs.Common.{take}
use Rattle.holdings.specs.Inner.StripPlans.{ArePlannedStrips}
use Rattle.holdings.proofs.planning.strips.Given as goal

abbrev pub invariant-loop-frame : goal.invariant-loop-frame
invariant-loop-frame l = ArePlannedStrips l.shards l.trees l.revoked l.flush (take l.frame-index l.frames) l.pieces.items
