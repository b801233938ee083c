-- None of the numbers so far is less.
use Rattle.std.proofs.Common.{◌<◌, ◌≤◌, ℕ}
use Rattle.std.specs.List.{slice_index}
use Rattle.maptree.proofs.min_depths.least_of_eight.Given as goal

abbrev pub invariant-loop-k : goal.invariant-loop-k
invariant-loop-k l = (j : ℕ) → l.from ≤ j → j < l.k → l.least ≤ slice_index l.numbers j
