-- The workers that were started.
use Rattle.std.proofs.Common.{◌≡◌, ℕ, ◌+◌, ◌<◌, length, get_or}
use Rattle.crew.proofs.team.start_all.Given as goal

abbrev pub invariant-loop-worker : goal.invariant-loop-worker
invariant-loop-worker g l =
    (length l.handles.items ≡ length l.yielded) × ((k : ℕ) (d : _) → k < length l.handles.items → (get_or l.handles.items k d).promise.0 ≡ 1 + k)
