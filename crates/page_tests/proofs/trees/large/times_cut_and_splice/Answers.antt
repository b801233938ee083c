-- The runs are those of a cut.
use Rattle.std.proofs.Common.{sym, subst}
use Rattle.std.specs.List.{All}
use Rattle.maptree.specs.Origins.{IsRun}
use Rattle.page_tests.proofs.trees.large.times_cut_and_splice.Goals as goal

pub passes-requires-clause-runs : goal.passes-requires-clause-runs
passes-requires-clause-runs g c =
    subst (λ rs. All (IsRun c.args.tree.now.links) rs) (sym c.deref.ensures.value) c.in_ok-runs.ensures.whole
