-- The parts so far are put back.
use Rattle.maptree.proofs.Cuttings.{IsRejoined}
use Rattle.maptree.proofs.cutting.joined.Given as goal

abbrev pub invariant-loop-i : goal.invariant-loop-i
invariant-loop-i l = IsRejoined l.left l.gaps l.parts l.i l.from l.nodes l.room
