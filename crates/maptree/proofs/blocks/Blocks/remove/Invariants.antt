-- All but so many of the nodes are out.
use Rattle.std.proofs.Common.{◌≡◌, ◌++◌, ◌-◌, ◌≤◌, take, drop}
use Rattle.maptree.specs.Blocks.{nodes_in}
use Rattle.maptree.proofs.blocks.Blocks.remove.Given as goal

abbrev pub invariant-loop-left : goal.invariant-loop-left
invariant-loop-left l = record {
  nodes : nodes_in l.self.blocks ≡ take l.from (nodes_in l.fn.self.blocks) ++ drop (l.to - l.left) (nodes_in l.fn.self.blocks);
  left : l.left ≤ l.to - l.from;
  room : l.self.room ≡ l.fn.self.room;
}

abbrev pub decreases-loop-left : goal.decreases-loop-left
decreases-loop-left l = l.left
