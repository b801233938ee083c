-- The nodes stay, and the blocks to come are there.
use Rattle.std.proofs.Common.{◌≡◌, ◌≤◌, length, vec_capacity}
use Rattle.maptree.specs.Blocks.{nodes_in}
use Rattle.maptree.proofs.blocks.join_sparse.Given as goal

abbrev pub invariant-loop-k : goal.invariant-loop-k
invariant-loop-k l = record {
  nodes : nodes_in l.blocks.items ≡ nodes_in l.fn.blocks.items;
  fewer : length l.blocks.items ≤ length l.fn.blocks.items;
  within : l.k ≤ length l.blocks.items;
  capacity : vec_capacity l.fn.blocks ≤ vec_capacity l.blocks;
}
