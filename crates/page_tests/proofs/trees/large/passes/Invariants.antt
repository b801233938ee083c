-- What is cut out is put back.
use Rattle.std.proofs.Common.{◌≡◌}
use Rattle.page_tests.proofs.trees.large.passes.Given as goal

abbrev pub invariant-loop : goal.invariant-loop
invariant-loop l = l.tree.links ≡ l.initial.tree.links
