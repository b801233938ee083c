-- The nodes so far are counted.
use Rattle.std.proofs.Common.{◌≡◌, length}
use Rattle.page_tests.proofs.trees.lists.grown_at.Given as goal

abbrev pub invariant-loop-i : goal.invariant-loop-i
invariant-loop-i g l = l.len ≡ length l.tree.links
