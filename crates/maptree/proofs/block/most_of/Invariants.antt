-- None so far is deeper.
use Rattle.std.proofs.Common.{◌≡◌, true, take}
use Rattle.maptree.specs.Blocks.{is_most}
use Rattle.maptree.proofs.block.most_of.Given as goal

abbrev pub invariant-loop-node : goal.invariant-loop-node
invariant-loop-node l = is_most l.most (take l.node-index l.nodes) ≡ true
