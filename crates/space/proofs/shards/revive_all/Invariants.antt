-- The live so far.
use Rattle.std.proofs.Common.{◌≡◌, ℕ, ◌<◌, length, slice_index}
use Rattle.space.proofs.shards.revive_all.Given as goal

abbrev pub invariant-loop-k : goal.invariant-loop-k
invariant-loop-k l = (length l.live ≡ length l.initial.live) × ((j : ℕ) → j < l.k → j < length l.live → slice_index l.live j ≡ 1)
