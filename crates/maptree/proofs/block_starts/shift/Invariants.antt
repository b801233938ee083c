-- The numbers so far have moved on by one, and the next is carried.
use Rattle.maptree.specs.Blocks.{grouped}
use Rattle.maptree.proofs.Shifting.{IsOnTheWay}
use Rattle.maptree.proofs.block_starts.shift.Given as goal

abbrev pub invariant-loop-at : goal.invariant-loop-at
invariant-loop-at l = IsOnTheWay (grouped l.fn.groups l.fn.inside) (grouped l.groups l.inside) l.block l.before l.at l.base l.carried
