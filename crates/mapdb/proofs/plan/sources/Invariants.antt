-- The sources so far.
use Rattle.std.proofs.Common.{take}
use Rattle.mapdb.proofs.Ends.{AreSources}
use Rattle.mapdb.proofs.plan.sources.Given as goal

abbrev pub invariant-loop-transfer : goal.invariant-loop-transfer
invariant-loop-transfer l = AreSources (take l.transfer-index l.transfers) l.places.items
