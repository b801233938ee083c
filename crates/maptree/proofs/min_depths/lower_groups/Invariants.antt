-- The groups so far have the least numbers.
use Rattle.std.proofs.Common.{◌≡◌, ◌/◌, ◌<◌, ◌≤◌, ℕ, length}
use Rattle.std.specs.List.{slice_index}
use Rattle.maptree.proofs.min_depths.lower_groups.Given as goal

abbrev pub invariant-loop-group : goal.invariant-loop-group
invariant-loop-group l = record {
  count : length l.groups ≡ length l.fn.groups;
  before : (g : ℕ) → g < l.from → slice_index l.groups g ≡ slice_index l.fn.groups g;
  low : (k : ℕ) → k < length l.numbers → l.from ≤ k / 64 → k / 64 < l.group → slice_index l.groups (k / 64) ≤ slice_index l.numbers k;
}
