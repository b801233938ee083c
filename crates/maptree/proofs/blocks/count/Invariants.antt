-- The blocks so far are counted.
use Rattle.std.proofs.Common.{◌≡◌, ◌≤◌, length, take}
use Rattle.maptree.specs.Blocks.{nodes_in, AreStarts}
use Rattle.maptree.proofs.blocks.count.Given as goal

abbrev pub invariant-loop-block : goal.invariant-loop-block
invariant-loop-block l = record {
  so_far : AreStarts (take l.block-index l.blocks) l.starts;
  before : l.before ≡ length (nodes_in (take l.block-index l.blocks));
  capacity : l.fn.starts.capacity ≤ l.starts.capacity;
}
