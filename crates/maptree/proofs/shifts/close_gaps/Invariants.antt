-- The gaps of the ranges so far are closed.
use Rattle.maptree.proofs.Cuttings.{IsClosedUpTo}
use Rattle.maptree.proofs.shifts.close_gaps.Given as goal

abbrev pub invariant-loop-range : goal.invariant-loop-range
invariant-loop-range l = IsClosedUpTo l.fn.nodes l.ranges l.range-index l.from l.kept l.nodes
