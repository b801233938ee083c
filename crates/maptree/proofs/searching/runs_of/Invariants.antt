-- The outermost runs of the nodes at the positions so far.
use Rattle.maptree.proofs.Named.{AreRunsTo}
use Rattle.maptree.proofs.searching.runs_of.Given as goal

abbrev pub invariant-loop-m : goal.invariant-loop-m
invariant-loop-m l = AreRunsTo l.nodes.nodes l.places l.positions.items l.m l.end l.runs.items
