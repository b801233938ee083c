-- The position goes on, and stays among the indexes.
use Rattle.std.proofs.Common.{◌-◌, ◌≤◌, length}
use Rattle.turns.proofs.starts.first_from.Given as goal

abbrev pub invariant-loop-k : goal.invariant-loop-k
invariant-loop-k l = (l.from ≤ l.k) × (l.k ≤ length l.at)

abbrev pub decreases-loop-k : goal.decreases-loop-k
decreases-loop-k l = length l.at - l.k
