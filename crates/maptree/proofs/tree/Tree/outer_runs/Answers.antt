-- The runs by the set are those by the list.
use Rattle.std.proofs.Common.{subst}
use Rattle.maptree.specs.Origins.{Shape, AreOuterRuns}
use Rattle.maptree.specs.Nodes.{origins_of}
use Rattle.maptree.proofs.Outermost.{outer_runs_same}
use Rattle.maptree.proofs.tree.Tree.outer_runs.Goals as goal

pub returns : goal.returns
returns c =
    let runs = c.in_ok-runs.runs.items in
    let keys = c.in_ok-named.named.keys in
    subst (λ (s : Shape). AreOuterRuns s.links c.args.places.now runs) c.self.view_is
    (outer_runs_same (origins_of c.self.inside.nodes.nodes) keys c.args.places.now c.in_ok-named.ensures runs
    c.in_ok-runs.ensures)
