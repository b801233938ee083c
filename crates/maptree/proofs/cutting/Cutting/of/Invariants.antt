-- The ranges so far are taken.
use Rattle.maptree.proofs.Cuttings.{IsTakenUpTo}
use Rattle.maptree.proofs.cutting.Cutting.of.Given as goal

abbrev pub invariant-loop-range : goal.invariant-loop-range
invariant-loop-range l = IsTakenUpTo l.most l.list.nodes l.ranges l.range-index l.from l.cutting
