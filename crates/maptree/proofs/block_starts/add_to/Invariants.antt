-- The numbers so far have changed.
use Rattle.std.proofs.Common.{◌≡◌, ◌+◌, ◌<◌, ◌≤◌, ℕ, length}
use Rattle.std.specs.List.{slice_index}
use Rattle.maptree.proofs.block_starts.add_to.Given as goal

abbrev pub invariant-loop-k : goal.invariant-loop-k
invariant-loop-k l = record {
  count : length l.numbers ≡ length l.fn.numbers;
  before : (j : ℕ) → j < l.from → slice_index l.numbers j ≡ slice_index l.fn.numbers j;
  more : (j : ℕ) → l.from ≤ j → j < l.k → slice_index l.numbers j ≡ slice_index l.fn.numbers j + l.n;
  rest : (j : ℕ) → l.from ≤ j → l.k ≤ j → slice_index l.numbers j ≡ slice_index l.fn.numbers j;
}
