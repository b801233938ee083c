-- None of the nodes so far, from the back, is less deep.
use Rattle.std.proofs.Common.{◌≡◌, take}
use Rattle.maptree.specs.Nodes.{last_less}
use Rattle.maptree.specs.Blocks.{nodes_in}
use Rattle.maptree.proofs.blocks.Blocks.last_before.Given as goal

abbrev pub invariant-loop-k : goal.invariant-loop-k
invariant-loop-k l = last_less l.depth (nodes_in (take l.block l.self.blocks)) ≡ last_less l.depth (nodes_in (take l.k l.self.blocks))
