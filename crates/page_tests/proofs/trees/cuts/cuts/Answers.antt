-- The runs are those of a cut.
use Rattle.std.proofs.Common.{◌≡◌, sym, ◌∙◌, subst, Result, Ok, Err}
use Rattle.std.specs.Result.{IfOk}
use Rattle.std.specs.List.{All}
use Rattle.maptree.specs.Origins.{IsRun, AreOuterRuns}
use Rattle.space.specs.Slices.{nodes_of}
use Rattle.maptree.specs.Cuts.{IsCut}
use Rattle.page_tests.proofs.trees.cuts.cuts.Goals as goal

-- what holds of an answer
answered : {A E : Type 0} (r : Result A E) (a : A) (P : A → Type 0) → IfOk r P → r ≡ Ok a → P a
answered (Ok b) a P holds is = let same : b ≡ a = cc is in subst P same holds
answered (Err e) a P holds is = absurd (cc is)

pub cut-parts-requires-clause-runs : goal.cut-parts-requires-clause-runs
cut-parts-requires-clause-runs g c =
    let os = c.args.tree.now.links in
    let runs = answered c.outer_runs-runs.result c.in_ok-runs.runs (λ rs. AreOuterRuns os c.deref.result.now rs.items) c.outer_runs-runs.ensures (sym c.or_left.ensures ∙ c.in_ok-runs.was) in
    subst (λ rs. All (IsRun os) rs) (sym c.deref-3.ensures.value) runs.whole

pub returns : goal.returns
returns g c =
    answered c.cut-parts.result c.in_ok-parts.parts (λ ps. IsCut c.args.tree.now.links (nodes_of ps.items) c.cut-parts.new.self) c.cut-parts.ensures.cut (sym c.or_left-2.ensures ∙ c.in_ok-parts.was)
