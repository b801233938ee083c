-- The nodes so far with those of the blocks to come are all.
use Rattle.std.proofs.Common.{◌≡◌, ◌++◌, ◌≤◌, drop, vec_capacity}
use Rattle.maptree.specs.Blocks.{nodes_in}
use Rattle.maptree.proofs.blocks.Blocks.flat.Given as goal

abbrev pub invariant-loop-block : goal.invariant-loop-block
invariant-loop-block l = record {
  all : (l.nodes.items ++ nodes_in (drop l.block-index l.block-items)) ≡ nodes_in l.block-items;
  room : l.room ≤ vec_capacity l.nodes;
}
