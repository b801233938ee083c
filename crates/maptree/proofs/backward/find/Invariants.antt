-- No node so far has the place.
use Rattle.std.specs.Prelude.{reverse}
use Rattle.maptree.proofs.Reversed.{IsNotYet}
use Rattle.maptree.proofs.backward.find.Given as goal

abbrev pub invariant-loop-i : goal.invariant-loop-i
invariant-loop-i l = IsNotYet l.place (reverse l.backward) l.i
