-- None of the numbers so far is less.
use Rattle.std.proofs.Common.{◌*◌, ◌<◌, ◌≤◌, ℕ}
use Rattle.std.specs.List.{slice_index}
use Rattle.maptree.proofs.min_depths.least_of_group.Given as goal

abbrev pub invariant-loop-k : goal.invariant-loop-k
invariant-loop-k l = (j : ℕ) → 64 * l.group ≤ j → j < l.k → l.least ≤ slice_index l.numbers j
