-- No node so far, from the back, is less deep.
use Rattle.std.proofs.Common.{◌≡◌, drop, None}
use Rattle.maptree.specs.Nodes.{last_less}
use Rattle.maptree.proofs.scans.last_of_many.Given as goal

abbrev pub invariant-loop-i : goal.invariant-loop-i
invariant-loop-i l = last_less l.depth (drop l.i l.nodes) ≡ None
