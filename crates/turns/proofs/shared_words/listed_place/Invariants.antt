-- Back: it goes down. On: what is before the position is below the index.
use Rattle.std.proofs.Common.{◌-◌, ◌<◌, ◌≤◌, length, get_or}
use Rattle.turns.proofs.shared_words.listed_place.Given as goal

abbrev pub invariant-loop-k : goal.invariant-loop-k
invariant-loop-k l = l.k ≤ length l.at

abbrev pub decreases-loop-k : goal.decreases-loop-k
decreases-loop-k l = l.k

abbrev pub invariant-loop-k-2 : goal.invariant-loop-k-2
invariant-loop-k-2 l = (l.k ≤ length l.at) × (0 < l.k → get_or l.at (l.k - 1) 0 < l.index)

abbrev pub decreases-loop-k-2 : goal.decreases-loop-k-2
decreases-loop-k-2 l = length l.at - l.k
