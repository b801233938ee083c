-- The runs stay those of the tree.
use Rattle.std.proofs.Common.{length, sym, subst}
use Rattle.std.specs.List.{All}
use Rattle.maptree.specs.Origins.{IsRun, AreRising}
use Rattle.page_tests.proofs.trees.large.passes.Goals as goal

pub put_back-requires-clause-rising : goal.put_back-requires-clause-rising
put_back-requires-clause-rising c =
    subst (λ os. AreRising 0 c.args.runs.now (length os)) (sym c.loop.invariant) c.requires.rising

pub put_back-requires-clause-runs : goal.put_back-requires-clause-runs
put_back-requires-clause-runs c =
    subst (λ os. All (IsRun os) c.args.runs.now) (sym c.loop.invariant) c.requires.runs
