-- The nodes so far are deeper.
use Rattle.std.proofs.Common.{◌+◌}
use Rattle.std.specs.Prelude.{reverse}
use Rattle.maptree.proofs.Reversed.{AreDeeper}
use Rattle.maptree.proofs.backward.deeper.Given as goal

abbrev pub invariant-loop-k : goal.invariant-loop-k
invariant-loop-k l = AreDeeper l.depth (l.i + 1) (reverse l.backward) l.k
