-- The depths so far are not below.
use Rattle.std.proofs.Common.{◌<◌, ◌≤◌, ℕ}
use Rattle.std.specs.List.{slice_index}
use Rattle.maptree.proofs.min_depths.MinDepths.pass_back.Given as goal

abbrev pub invariant-loop-at : goal.invariant-loop-at
invariant-loop-at l = record {
  within : l.at ≤ l.end;
  not_below : (k : ℕ) → l.at ≤ k → k < l.end → l.bound ≤ slice_index l.self.min_depths k;
}

abbrev pub decreases-loop-at : goal.decreases-loop-at
decreases-loop-at l = l.at
