-- The flags so far are set.
use Rattle.std.proofs.Common.{◌≡◌, ℕ, ◌-◌, ◌<◌, ◌≤◌, Bool, true, length, get_or}
use Rattle.turns.proofs.open.first_unmarked.Given as goal

abbrev pub invariant-loop-p : goal.invariant-loop-p
invariant-loop-p l = (l.p ≤ length l.flags) × ((q : ℕ) → q < l.p → (d : Bool) → get_or l.flags q d ≡ true)

abbrev pub decreases-loop-p : goal.decreases-loop-p
decreases-loop-p l = length l.flags - l.p
