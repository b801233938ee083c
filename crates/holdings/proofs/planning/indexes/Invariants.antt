-- The indexes so far.
use Rattle.std.proofs.Common.{◌≡◌, map, take}
use Rattle.space.specs.Shards.{index_of}
use Rattle.holdings.proofs.planning.indexes.Given as goal

abbrev pub invariant-loop-node : goal.invariant-loop-node
invariant-loop-node l = l.indexes.items ≡ map (λ n. index_of l.shards n.place) (take l.node-index l.nodes)
