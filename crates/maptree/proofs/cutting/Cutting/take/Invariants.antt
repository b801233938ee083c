-- What is taken so far, with the rest, is what is to be taken.
use Rattle.std.proofs.Common.{◌-◌, ◌≤◌}
use Rattle.std.specs.List.{slice_range}
use Rattle.maptree.proofs.Cuttings.{IsTaken}
use Rattle.maptree.proofs.cutting.Cutting.take.Given as goal

abbrev pub invariant-loop-at : goal.invariant-loop-at
invariant-loop-at l = record {
  taken : IsTaken l.most l.fn.self (slice_range l.list.nodes l.from l.to) l.self (slice_range l.list.nodes l.at l.to);
  rising : l.from ≤ l.at;
  within : l.at ≤ l.to;
}

-- it gets shorter
abbrev pub decreases-loop-at : goal.decreases-loop-at
decreases-loop-at l = l.to - l.at
