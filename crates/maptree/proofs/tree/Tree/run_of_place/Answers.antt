-- The run of the place, if it stands in the tree.
use Rattle.std.proofs.Common.{◌≡◌, [], ◌∷◌, ◌++◌, position, Some, sym, ap, ◌∙◌, subst, if◌then◌else◌}
use Rattle.std.specs.Result.{is_ok}
use Rattle.space.specs.Place.{same_place}
use Rattle.maptree.specs.Origins.{Shape, AreOuterRuns}
use Rattle.maptree.proofs.OneRun.{run_found, one_run, no_runs}
use Rattle.maptree.proofs.Positions.{position-links}
use Rattle.maptree.proofs.tree.Tree.run_of_place.Goals as goal

pub returns : goal.returns
returns c =
    let ns = c.self.inside.nodes.nodes in
    let p = c.args.place in
    let os = c.args.self.now.links in
    let found = c.find.ensures ∙ sym (position-links p [] ns) in
    let seen = subst (λ (s : Shape). position (λ o. same_place p o.0) s.links ≡ Some c.in-Some.i) c.self.view_is (sym found ∙ c.in-Some.is) in
    let filled = c.push.ensures.items ∙ ap (λ b. if b then c.in_ok-runs.runs.items ++ c.run_of.result ∷ [] else c.in_ok-runs.runs.items) (sym c.map_err.ensures.variant ∙ ap is_ok c.in_ok-map_err.was) in
    let items : c.push.new.self.items ≡ c.run_of.result ∷ [] = filled ∙ ap (λ xs. xs ++ c.run_of.result ∷ []) c.in_ok-runs.ensures.items in
    subst (AreOuterRuns os (p ∷ [])) (sym items) (one_run os p c.run_of.result (run_found os p c.in-Some.i c.run_of.result seen c.run_of.ensures.start c.run_of.ensures.end c.run_of.ensures.run))

pub returns-in_default : goal.returns-in_default
returns-in_default c =
    let ns = c.self.inside.nodes.nodes in
    let p = c.args.place in
    let found = c.find.ensures ∙ sym (position-links p [] ns) in
    subst (AreOuterRuns c.args.self.now.links (p ∷ [])) (sym c.new.ensures.items)
    (subst (λ (s : Shape). AreOuterRuns s.links (p ∷ []) []) c.self.view_is (no_runs ns c.self.invariant p (sym found ∙ c.in_default.is)))
