-- The nodes so far are deeper.
use Rattle.std.proofs.Common.{◌≡◌, ◌+◌, drop}
use Rattle.maptree.specs.Nodes.{run_len}
use Rattle.maptree.proofs.scans.deeper.Given as goal

abbrev pub invariant-loop-i : goal.invariant-loop-i
invariant-loop-i l = run_len l.depth l.nodes ≡ l.i + run_len l.depth (drop l.i l.nodes)
