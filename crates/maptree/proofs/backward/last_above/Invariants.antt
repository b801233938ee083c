-- No node so far, from the back, is less deep.
use Rattle.std.proofs.Common.{◌≡◌, drop, take, None}
use Rattle.std.specs.Prelude.{reverse}
use Rattle.maptree.specs.Nodes.{last_less}
use Rattle.maptree.proofs.backward.last_above.Given as goal

abbrev pub invariant-loop-k : goal.invariant-loop-k
invariant-loop-k l = last_less l.depth (drop l.k (take l.i (reverse l.backward))) ≡ None
