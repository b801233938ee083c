-- The last one of those so far.
use Rattle.std.proofs.Common.{◌≡◌, take}
use Rattle.maptree.specs.Nodes.{last_less}
use Rattle.maptree.proofs.scans.last_of_four.Given as goal

abbrev pub invariant-loop-i : goal.invariant-loop-i
invariant-loop-i l = l.last ≡ last_less l.depth (take l.i l.nodes)
