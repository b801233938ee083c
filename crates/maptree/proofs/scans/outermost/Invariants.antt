-- The outermost runs of the nodes so far.
use Rattle.std.proofs.Common.{length, ◌-◌}
use Rattle.maptree.proofs.Outermost.{AreSoFar}
use Rattle.maptree.proofs.scans.outermost.Given as goal

abbrev pub invariant-loop-i : goal.invariant-loop-i
invariant-loop-i l = AreSoFar l.nodes l.named.keys l.i l.runs.items

-- each node comes once
abbrev pub decreases-loop-i : goal.decreases-loop-i
decreases-loop-i l = length l.nodes - l.i
