-- The pieces so far, with those of the rest, are all.
use Rattle.std.proofs.Common.{◌≡◌, ◌++◌, true, length, map}
use Rattle.space.specs.Slices.{pieces}
use Rattle.pieces.proofs.cutting.cut_parts.Given as goal

abbrev pub invariant-loop-rest : goal.invariant-loop-rest
invariant-loop-rest g l =
    (l.parts.items ++ map g.T.Carried.piece (pieces (length l.rest) l.most l.rest) ≡ map g.T.Carried.piece (pieces (length l.list) l.most l.list))
    × (g.T.Carried.fits l.rest ≡ true)

-- it gets shorter
abbrev pub decreases-loop-rest : goal.decreases-loop-rest
decreases-loop-rest g l = length l.rest
