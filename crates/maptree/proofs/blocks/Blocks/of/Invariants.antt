-- The nodes so far with those to come are all.
use Rattle.std.proofs.Common.{◌≡◌, ◌++◌, ◌+◌, ◌<◌, length}
use Rattle.maptree.specs.Blocks.{nodes_in}
use Rattle.maptree.proofs.blocks.Blocks.of.Given as goal

abbrev pub invariant-loop-rest : goal.invariant-loop-rest
invariant-loop-rest l = record {
  all : (nodes_in l.blocks.items ++ l.rest) ≡ l.nodes;
  some : 0 < length l.blocks.items + length l.rest;
}

-- it gets shorter
abbrev pub decreases-loop-rest : goal.decreases-loop-rest
decreases-loop-rest l = length l.rest
