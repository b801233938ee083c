-- The results from this position on have their places, and no two of them one number.
use Rattle.pieces.proofs.Placed.{ArePlaced}
use Rattle.pieces.proofs.gathering.places.Given as goal

abbrev pub invariant-loop-i : goal.invariant-loop-i
invariant-loop-i l = ArePlaced l.pieces l.i l.given l.places.items

-- it falls
abbrev pub decreases-loop-i : goal.decreases-loop-i
decreases-loop-i l = l.i
