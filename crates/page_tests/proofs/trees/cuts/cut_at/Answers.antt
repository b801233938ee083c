-- The runs are those of a cut.
use Rattle.std.proofs.Common.{sym, subst}
use Rattle.std.specs.List.{All}
use Rattle.maptree.specs.Origins.{IsRun}
use Rattle.page_tests.proofs.trees.cuts.cut_at.Goals as goal

pub cut-requires-clause-runs : goal.cut-requires-clause-runs
cut-requires-clause-runs c =
    subst (λ rs. All (IsRun c.args.tree.now.links) rs) (sym c.deref.ensures.value) c.in_ok-runs.ensures.whole
