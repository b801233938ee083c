-- So many nodes from the position on.
use Rattle.std.proofs.Common.{◌≡◌, ◌-◌, ◌≤◌, length, take, drop}
use Rattle.maptree.specs.Blocks.{nodes_in}
use Rattle.maptree.proofs.blocks.Blocks.copy.Given as goal

abbrev pub invariant-loop-self : goal.invariant-loop-self
invariant-loop-self l = record {
  nodes : l.nodes.items ≡ take (length l.nodes.items) (drop l.from (nodes_in l.self.blocks));
  upto : length l.nodes.items ≤ l.to - l.from;
}

abbrev pub decreases-loop-self : goal.decreases-loop-self
decreases-loop-self l = l.to - l.from - length l.nodes.items
