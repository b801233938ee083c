-- The run of a place is that of its node.
use Rattle.std.proofs.Common.{◌∙◌, [], ◌∷◌, sym, subst}
use Rattle.maptree.specs.Origins.{AreOuterRuns}
use Rattle.maptree.proofs.OneRun.{run_found, one_run}
use Rattle.holdings.proofs.runs.runs_of_place.Goals as goal

pub returns-in-Some : goal.returns-in-Some
returns-in-Some c =
    let os = c.args.tree.now.links in
    let p = c.args.place in
    let run = c.run_of.result in
    subst (AreOuterRuns os (p ∷ [])) (sym c.one.ensures)
    (one_run os p run (run_found os p c.in-Some.i run (sym c.find.ensures ∙ c.in-Some.is) c.run_of.ensures.start c.run_of.ensures.end c.run_of.ensures.run))
