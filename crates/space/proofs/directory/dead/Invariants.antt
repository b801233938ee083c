-- No position so far is that of a live shard.
use Rattle.std.proofs.Common.{◌≡◌, ℕ, ◌-◌, ◌<◌, ◌≤◌, slice_index}
use Rattle.space.proofs.directory.dead.Given as goal

abbrev pub invariant-loop-at : goal.invariant-loop-at
invariant-loop-at l = record { from : l.from ≤ l.at; upto : l.at ≤ l.end; dead : (k : ℕ) → l.from ≤ k → k < l.at → slice_index l.live (slice_index l.positions k) ≡ 0 }

abbrev pub decreases-loop-at : goal.decreases-loop-at
decreases-loop-at l = l.end - l.at
