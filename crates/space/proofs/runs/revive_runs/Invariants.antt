-- The numbers so far are revived, and the others are what they were.
use Rattle.std.proofs.Common.{◌≡◌, ℕ, ◌<◌, ◌≤◌, length, slice_index}
use Rattle.space.specs.Runs.{IsRevived}
use Rattle.space.proofs.runs.revive_runs.Given as goal

abbrev pub invariant-loop-k : goal.invariant-loop-k
invariant-loop-k l = record {
  each : length l.runs ≡ length l.initial.runs;
  done : (j : ℕ) → j < l.k → IsRevived (slice_index l.initial.runs j) (slice_index l.runs j);
  rest : (j : ℕ) → l.k ≤ j → slice_index l.runs j ≡ slice_index l.initial.runs j;
}
