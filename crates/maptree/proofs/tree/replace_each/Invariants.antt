-- The first so many pages have their places.
use Rattle.std.proofs.Common.{◌≡◌}
use Rattle.maptree.specs.Renamings.{nodes_renamed}
use Rattle.maptree.proofs.EachReplaced.{for_first}
use Rattle.maptree.proofs.tree.replace_each.Given as goal

abbrev pub invariant-loop-k : goal.invariant-loop-k
invariant-loop-k l = record {
  nodes : l.nodes.nodes ≡ nodes_renamed (for_first l.new l.k) l.fn.nodes.nodes;
  room : l.nodes.room ≡ l.fn.nodes.room;
}
