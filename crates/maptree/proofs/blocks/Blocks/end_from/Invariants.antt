-- The nodes of the blocks so far, and how far the run goes on behind them.
use Rattle.std.proofs.Common.{◌≡◌, ◌+◌, length, take, drop}
use Rattle.maptree.specs.Nodes.{run_len}
use Rattle.maptree.specs.Blocks.{nodes_in}
use Rattle.maptree.proofs.blocks.Blocks.end_from.Given as goal

abbrev pub invariant-loop-k : goal.invariant-loop-k
invariant-loop-k l =
    length (nodes_in (take l.block l.self.blocks)) + run_len l.depth (nodes_in (drop l.block l.self.blocks))
    ≡ length (nodes_in (take l.k l.self.blocks)) + run_len l.depth (nodes_in (drop l.k l.self.blocks))
