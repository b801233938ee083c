-- The runs are those of a cut.
use Rattle.std.proofs.Common.{sym, subst}
use Rattle.std.specs.List.{All}
use Rattle.maptree.specs.Origins.{IsRun}
use Rattle.page_tests.proofs.trees.many.thins.Goals as goal

pub cuts-requires-clause-runs : goal.cuts-requires-clause-runs
cuts-requires-clause-runs g c =
    subst (λ rs. All (IsRun c.args.tree.now.links) rs) (sym c.deref-10.ensures.value) c.in_ok-runs.ensures.whole
