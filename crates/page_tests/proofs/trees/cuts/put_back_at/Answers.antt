-- The runs are those of a cut.
use Rattle.std.proofs.Common.{sym, subst}
use Rattle.std.specs.List.{All}
use Rattle.maptree.specs.Origins.{IsRun}
use Rattle.page_tests.proofs.trees.cuts.put_back_at.Goals as goal

pub put_back-requires-clause-runs : goal.put_back-requires-clause-runs
put_back-requires-clause-runs c =
    subst (λ rs. All (IsRun c.args.tree.now.links) rs) (sym c.deref.ensures.value) c.in_ok-runs.ensures.whole
