-- By the numbers so far no shard is live.
use Rattle.std.proofs.Common.{◌≡◌, ℕ, ◌-◌, ◌<◌, ◌≤◌, slice_index}
use Rattle.std.specs.Int.{bit_at}
use Rattle.space.proofs.runs.next_number.Given as goal

abbrev pub invariant-loop-at : goal.invariant-loop-at
invariant-loop-at l = record { from : l.from ≤ l.at; upto : l.at ≤ l.end; dead : (k : ℕ) → l.from ≤ k → k < l.at → (leaf : ℕ) → leaf < 16 → bit_at (slice_index l.runs k) leaf ≡ 0 }

abbrev pub decreases-loop-at : goal.decreases-loop-at
decreases-loop-at l = l.end - l.at

abbrev pub invariant-loop-at-2 : goal.invariant-loop-at-2
invariant-loop-at-2 l = record { from : l.from ≤ l.at; upto : l.at ≤ l.end; dead : (k : ℕ) → l.from ≤ k → k < l.at → (leaf : ℕ) → leaf < 16 → bit_at (slice_index l.runs k) leaf ≡ 0 }

abbrev pub decreases-loop-at-2 : goal.decreases-loop-at-2
decreases-loop-at-2 l = l.end - l.at
