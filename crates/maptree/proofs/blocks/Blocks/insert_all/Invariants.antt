-- The nodes from this one on are in.
use Rattle.std.proofs.Common.{◌≡◌, ◌+◌, ◌++◌, length, take, drop}
use Rattle.maptree.specs.Blocks.{nodes_in}
use Rattle.maptree.proofs.blocks.Blocks.insert_all.Given as goal

abbrev pub invariant-loop-k : goal.invariant-loop-k
invariant-loop-k l = record {
  nodes : nodes_in l.self.blocks ≡ take l.i (nodes_in l.fn.self.blocks) ++ (drop l.k l.nodes ++ drop l.i (nodes_in l.fn.self.blocks));
  room : l.self.room + length (drop l.k l.nodes) ≡ l.fn.self.room;
}
