-- The parts from this one on are in their gaps.
use Rattle.std.proofs.Common.{◌≡◌, ◌+◌, drop}
use Rattle.maptree.specs.Blocks.{nodes_in}
use Rattle.space.specs.Slices.{nodes_of}
use Rattle.maptree.specs.Cuts.{joined, count_of}
use Rattle.maptree.proofs.blocks.Blocks.put_back.Given as goal

abbrev pub invariant-loop-k : goal.invariant-loop-k
invariant-loop-k l = record {
  nodes : nodes_in l.self.blocks ≡ joined 0 (nodes_in l.fn.self.blocks) (drop l.k l.gaps) (drop l.k (nodes_of l.parts));
  room : l.self.room + count_of (drop l.k (nodes_of l.parts)) ≡ l.fn.self.room;
}
