-- There are no fewer than before.
use Rattle.std.proofs.Common.{◌≤◌, ◌-◌, length}
use Rattle.maptree.proofs.blocks.fill.Given as goal

abbrev pub invariant-loop-alloc : goal.invariant-loop-alloc
invariant-loop-alloc l = length l.fn.blocks.items ≤ length l.blocks.items

abbrev pub decreases-loop-alloc : goal.decreases-loop-alloc
decreases-loop-alloc l = l.n - length l.blocks.items
