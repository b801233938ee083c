-- None so far is less deep.
use Rattle.std.proofs.Common.{◌≡◌, true, take}
use Rattle.maptree.specs.Blocks.{is_least}
use Rattle.maptree.proofs.block.least_of.Given as goal

abbrev pub invariant-loop-node : goal.invariant-loop-node
invariant-loop-node l = is_least l.least (take l.node-index l.nodes) ≡ true
