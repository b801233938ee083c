-- The ranges so far are out.
use Rattle.std.proofs.Common.{◌≡◌}
use Rattle.maptree.specs.Blocks.{nodes_in}
use Rattle.maptree.proofs.Parts.{IsOutSoFar}
use Rattle.maptree.proofs.blocks.Blocks.remove_ranges.Given as goal

abbrev pub invariant-loop-range : goal.invariant-loop-range
invariant-loop-range l = record {
  out : IsOutSoFar (nodes_in l.fn.self.blocks) l.ranges l.range-index l.gone (nodes_in l.self.blocks);
  room : l.self.room ≡ l.fn.self.room;
}
