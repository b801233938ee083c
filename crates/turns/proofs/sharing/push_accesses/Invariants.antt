-- The indexes so far.
use Rattle.std.proofs.Common.{◌≡◌, ◌++◌, map, take}
use Rattle.turns.proofs.sharing.push_accesses.Given as goal

abbrev pub invariant-loop-k : goal.invariant-loop-k
invariant-loop-k l = l.at.items ≡ l.initial.at.items ++ map (λ t. t.index) (take l.k l.touch)
