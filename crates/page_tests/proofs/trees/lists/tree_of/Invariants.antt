-- The nodes so far are counted.
use Rattle.std.proofs.Common.{◌≡◌, length}
use Rattle.page_tests.proofs.trees.lists.tree_of.Given as goal

abbrev pub invariant-loop-depth : goal.invariant-loop-depth
invariant-loop-depth g l = l.len ≡ length l.tree.links
