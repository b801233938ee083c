-- The depths so far are above.
use Rattle.std.proofs.Common.{◌<◌, ◌≤◌, ◌-◌, ℕ, length}
use Rattle.std.specs.List.{slice_index}
use Rattle.maptree.proofs.min_depths.MinDepths.pass_above.Given as goal

abbrev pub invariant-loop-at : goal.invariant-loop-at
invariant-loop-at l = record {
  from : l.from ≤ l.at;
  within : l.at ≤ length l.self.min_depths;
  above : (k : ℕ) → l.from ≤ k → k < l.at → l.bound < slice_index l.self.min_depths k;
}

abbrev pub decreases-loop-at : goal.decreases-loop-at
decreases-loop-at l = length l.self.min_depths - l.at
