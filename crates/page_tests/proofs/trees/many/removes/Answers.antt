-- The runs are those of the place.
use Rattle.std.proofs.Common.{sym, subst}
use Rattle.std.specs.List.{All}
use Rattle.maptree.specs.Origins.{IsRun}
use Rattle.page_tests.proofs.trees.many.removes.Goals as goal

pub remove-requires-clause-runs : goal.remove-requires-clause-runs
remove-requires-clause-runs g c =
    subst (λ rs. All (IsRun c.args.tree.now.links) rs) (sym c.deref-2.ensures.value) c.in_ok-runs.ensures.whole
