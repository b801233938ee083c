-- The set has the indexes from this position on, no two of which are one.
use Rattle.pieces.proofs.Repeats.{HasLast}
use Rattle.pieces.proofs.distinct.distinct_set.Given as goal

abbrev pub invariant-loop-i : goal.invariant-loop-i
invariant-loop-i l = HasLast l.seen.keys l.indexes l.i

-- it falls
abbrev pub decreases-loop-i : goal.decreases-loop-i
decreases-loop-i l = l.i
