-- The strips of the runs so far.
use Rattle.std.proofs.Common.{take}
use Rattle.holdings.specs.Inner.StripPlans.{AreAdded}
use Rattle.holdings.proofs.planning.add_frame.Given as goal

abbrev pub invariant-loop-run : goal.invariant-loop-run
invariant-loop-run l = AreAdded l.shards l.trees l.revoked l.flush l.frame.frame (take l.run-index l.run-items) l.fn.pieces.items l.pieces.items
