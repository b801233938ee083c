-- The positions of the places so far.
use Rattle.std.proofs.Common.{take}
use Rattle.maptree.specs.Named.{ArePositions}
use Rattle.maptree.proofs.searching.positions_of.Given as goal

abbrev pub invariant-loop-place : goal.invariant-loop-place
invariant-loop-place l = ArePositions l.nodes.nodes (take l.place-index l.places) l.positions.items
