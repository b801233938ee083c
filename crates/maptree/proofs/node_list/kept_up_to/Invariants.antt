-- So many so far.
use Rattle.std.proofs.Common.{◌≡◌, ◌+◌, ◌≤◌, drop}
use Rattle.space.specs.Slices.{nodes_of}
use Rattle.maptree.specs.Cuts.{count_of}
use Rattle.maptree.proofs.node_list.kept_up_to.Given as goal

abbrev pub invariant-loop-part : goal.invariant-loop-part
invariant-loop-part l = record {
  count : l.kept + count_of (drop l.part-index (nodes_of l.parts)) ≡ count_of (nodes_of l.parts);
  upto : l.kept ≤ l.most;
}
