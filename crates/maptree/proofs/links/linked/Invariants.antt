-- The links so far with those of the nodes to come, given the path to the node before, are all.
use Rattle.std.proofs.Common.{◌≡◌, ◌++◌, drop}
use Rattle.std.specs.Prelude.{reverse}
use Rattle.maptree.specs.Nodes.{links, origins_of}
use Rattle.maptree.proofs.links.linked.Given as goal

abbrev pub invariant-loop-node : goal.invariant-loop-node
invariant-loop-node l = (l.links.items ++ links (reverse l.path.items) (drop l.node-index l.nodes)) ≡ origins_of l.nodes
