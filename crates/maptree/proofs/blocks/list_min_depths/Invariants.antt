-- The blocks so far are listed.
use Rattle.std.proofs.Common.{◌≤◌, take}
use Rattle.maptree.specs.Blocks.{AreMinDepths}
use Rattle.maptree.proofs.blocks.list_min_depths.Given as goal

abbrev pub invariant-loop-block : goal.invariant-loop-block
invariant-loop-block l = record {
  so_far : AreMinDepths (take l.block-index l.blocks) l.min_depths.min_depths;
  capacity : l.fn.min_depths.capacity ≤ l.min_depths.capacity;
}
