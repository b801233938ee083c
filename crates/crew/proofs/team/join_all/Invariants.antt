-- The workers that have ended.
use Rattle.std.proofs.Common.{◌≡◌, ◌+◌, length}
use Rattle.crew.specs.Crews.{AreNumberedFrom}
use Rattle.crew.proofs.team.join_all.Given as goal

abbrev pub invariant-loop-handle : goal.invariant-loop-handle
invariant-loop-handle g l = AreNumberedFrom 0 l.workers.items × (length l.workers.items ≡ length l.yielded + 1)
